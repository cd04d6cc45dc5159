-- What is proved by computing: single payloads, tables and values.
pub mod Bench
pub mod Writer
pub mod FurtherCases
pub mod DistanceCases
pub mod MarkCases
pub mod PlaceCases
pub mod ReadingCases
pub mod ElementCases
pub mod TableCases
pub mod RampCases
pub mod JournalCases
pub mod ContainerCases
pub mod ShownValues
pub mod WrongDecoders
pub mod Rejoining
pub mod Astray
