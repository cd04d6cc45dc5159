-- The bench cases P1 to P11 of the specification hold, as one theorem over the definitions: answers and all four lists, from end to end.
use lib.Dec.{T}
use Rattle.standard.specs.Computed.{computed}
use Rattle.standard.specs.Cases.{to_the_end, all_hold, bench_cases}
use Rattle.standard.specs.Cases as cases

pub bench : T (all_hold to_the_end bench_cases)
unfolding computed cases.computed
bench = tt
