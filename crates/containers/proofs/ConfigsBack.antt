-- The numbers and the config of a payload that was written are read, or passed over to their last bit.
use Prim.Native.Nat.{ℕ, ◌+◌, ◌-◌, ◌^◌, ◌<◌}
use mathlib.Core.Path.{◌≡◌, refl}
use mathlib.Core.Bool.{Bool, true, false, cond, not}
use mathlib.Core.List.{[]}
use mathlib.Core.Option.{Option, none, some}
use native.Mathlib.Omega.{arith}
use lib.Dec.{eqb, ltb}
use lib.ListN.{length}
use lib.Pow.{ones_lt}
use borrow.Author.Tests.{ltb-true, ltb-false, eq-eqb, ne_eqb}
use Rattle.bits.specs.Parsed.{Parser, ◌>>=◌, map_p, pure}
use Rattle.bits.specs.Reads as reads
use Rattle.writes.specs.Writes.{Bits, one, ◌⋯◌, ◌⊳◌}
use Rattle.writes.proofs.Writes.{width}
use Rattle.writes.proofs.ReadBack.{Reads, Is, Any, next, mapped, goes_on, stops, given, by-room, recast, either, a-field, a-flag, skipped}
use Rattle.writes.proofs.GroupsBack.{most-more, further-fit, a-variable}
use Rattle.standard.specs.Container.{or_ends_early, bits, flag, pass, variable, extended, passed, if_set, flagged, handling, after_offset, config}
use Rattle.containers.specs.Written.{variable_bits, extended_bits, given_bits, Config, priority_bits, aligned_bits, handling_bits, after_offset_bits, config_bits}

-- Fields

pub bits_back : (w v : ℕ) → v < 2 ^ w → Reads (Is v) (w ⊳ v) (bits w)
unfolding bits or_ends_early
bits_back w v h = recast _ (a-field w 0 v h)

flag-back : (b : Bool) → Reads (Is b) (one b) flag
unfolding flag or_ends_early
flag-back b = recast _ (a-flag 0 b)

pub pass-back : (u : Bits) (n : ℕ) → length u ≡ n → Reads Any u (pass n)
unfolding pass or_ends_early
pass-back u n h = recast _ (skipped u n 0 h)

pub variable-back : (w v : ℕ) → Reads (Is v) (variable_bits w v) (variable w)
unfolding variable or_ends_early variable_bits
variable-back w v =
    by-room {m = λ k. or_ends_early (reads.variable_bits w k 0)}
    λ k h. recast _ (a-variable w 0 v k v (most-more w v) (omega (arith, further-fit w v v)))

pub extended-back : (w v : ℕ) → Reads (Is v) (extended_bits w v) (extended w)
unfolding extended extended_bits
extended-back w v = either (ltb v (2 ^ w - 1)) plain more
  where
    step : ℕ → Parser ℕ
    step u = cond (eqb u (2 ^ w - 1)) (map_p (λ more. u + more) (variable w)) (pure u)

    plain : ltb v (2 ^ w - 1) ≡ true → Reads (Is v) (w ⊳ v) (bits w >>= step)
    plain t =
        let l = ltb-true v (2 ^ w - 1) t in
        stops v step (bits_back w v (omega (arith, ones_lt w))) (rw (ne_eqb v (2 ^ w - 1) (λ e. absurd (omega arith))) (given v refl))

    more : ltb v (2 ^ w - 1) ≡ false → Reads (Is v) (w ⊳ (2 ^ w - 1) ⋯ variable_bits w (v - (2 ^ w - 1))) (bits w >>= step)
    more t =
        let l = ltb-false v (2 ^ w - 1) t in
        let e : 2 ^ w - 1 + (v - (2 ^ w - 1)) ≡ v = omega arith in
        goes_on (2 ^ w - 1) step (bits_back w (2 ^ w - 1) (ones_lt w))
        (rw (eq-eqb (2 ^ w - 1) (2 ^ w - 1) refl) (mapped _ (variable-back w (v - (2 ^ w - 1))) λ m h. rw h e))

pub passed-back : {v : ℕ} {w : Bits} {m : Parser ℕ} → Reads (Is v) w m → Reads Any w (passed m)
unfolding passed
passed-back h = mapped _ h λ n e. tt

-- The config

flagged_back : {f : ℕ → Bits} {m : Parser (Unit {0})} → ((v : ℕ) → Reads Any (f v) m) → (o : Option ℕ) → Reads Any (given_bits f o) (flagged m)
unfolding given_bits flagged if_set
flagged_back h none = stops false _ (flag-back false) (given tt tt)
flagged_back h (some v) = goes_on true _ (flag-back true) (h v)

abbrev is_given : Option ℕ → Bool
is_given none = false
is_given (some v) = true

module _ (c : Config) where
  handling-back : (o : Option ℕ) → Reads Any (handling_bits o c) (handling (is_given o))
  unfolding handling_bits handling priority_bits aligned_bits flagged if_set ◌⊳◌
  handling-back (some v) = pass-back (priority_bits c) (5 + 2) refl
  handling-back none =
      either c.aligned
      (λ t.
      goes_on true _ (flag-back true)
      (pass-back (one c.create_duplicate ⋯ one c.remove_duplicate ⋯ priority_bits c) (1 + 1 + 5 + 2) refl))
      λ t. stops false _ (flag-back false) (given tt tt)

  last-back : (d : Bool) (o : Option ℕ)
      → Reads Any (one d ⋯ cond d [] (handling_bits o c)) (flag >>= λ discard. if_set (not discard) (handling (is_given o)))
  unfolding if_set
  last-back true o = goes_on true _ (flag-back true) (given tt tt)
  last-back false o = goes_on false _ (flag-back false) (handling-back o)

  after-offset-back : (o : Option ℕ) → Reads Any (after_offset_bits o c) (after_offset (is_given o))
  unfolding after_offset after_offset_bits
  after-offset-back o =
      next (flagged_back (λ v. passed-back (variable-back 11 v)) c.duration)
      (next (flagged_back (λ v. passed-back (variable-back 2 v)) c.group)
      (next (flagged_back (λ v. pass-back (8 ⊳ v) 8 (width 8 v)) c.codec) (last-back c.discard_unknown o)))

  pub config-back : Reads Any (config_bits c) config
  unfolding config_bits config if_set given_bits ◌⊳◌
  config-back = go c.offset
    where
      go : (o : Option ℕ) → Reads Any (given_bits (λ v. 11 ⊳ v ⋯ one c.reserved) o ⋯ after_offset_bits o c) config
      go none = goes_on false _ (flag-back false) (next {P = Any} (given tt tt) (after-offset-back none))
      go (some v) =
          goes_on true _ (flag-back true) (next (pass-back (11 ⊳ v ⋯ one c.reserved) (11 + 1) refl) (after-offset-back (some v)))
