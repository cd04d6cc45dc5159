-- Determinacy of a call: what is seen of its end follows from its parameters at entry.
use mathlib.Core.Path.{◌≡◌}

-- what is seen of the value v that is given back and of the parameters s at exit follows from the parameters a at entry
module _ {K : Type 0} {In Given Out : K → Type 0} {Seen : Type 0} where
  abbrev pub Determines : ((κs : K) → In κs → Given κs → Out κs → Type 0) → ((κs : K) → Given κs → Out κs → Seen) → Type 0
  Determines Post see = (κs : K) (a : In κs) (v v' : Given κs) (s s' : Out κs) → Post κs a v s → Post κs a v' s' → see κs v s ≡ see κs v' s'
