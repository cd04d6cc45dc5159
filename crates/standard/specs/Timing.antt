-- The specification, section 10, "Timings and ramps": the timing test.
use Rattle.std.specs.Prelude.{ℕ, ◌+◌, Bool, true, cond, ◌&&◌, ◌||◌, List, [], ◌∷◌, ltb, leb}
use Rattle.standard.specs.Numbers.{frame_length, accepted, ordering, overlap, cross_frame}
use Rattle.standard.specs.Tree.{Timing}

abbrev pub end_of : Timing → ℕ
end_of t = t.start + t.ramp

-- no start falls below the one before it, n
unfoldable pub rising : ℕ → List Timing → Bool
rising n [] = true
rising n (t ∷ ts) = leb n t.start && rising t.start ts

-- per block; the preceding block ends at n
unfoldable pub apart : ℕ → List Timing → ℕ
apart n [] = accepted
apart n (t ∷ ts) =
    cond (ltb t.start n) overlap
    (cond (ltb frame_length t.start || ltb frame_length (end_of t)) cross_frame
    (apart (end_of t) ts))

-- 8 comes first: one start that falls is enough
unfoldable pub timing_test : List Timing → ℕ
timing_test ts = cond (rising 0 ts) (apart 0 ts) ordering

-- What computing opens

unfoldable pub computed : Unit {0}
unfolding rising apart timing_test
computed = tt
