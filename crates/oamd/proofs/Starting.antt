-- The start rows, as the elements find them.
use Rattle.std.proofs.Common.{◌≡◌, ℕ, ◌≤◌, Bool, ap, sym, ◌∙◌, List, ℤ, map, length, drop, Result, None, arith}
use Rattle.std.proofs.Math.Option.{none}
use Rattle.std.proofs.lemmas.List.{length-map}
use Rattle.bits.specs.Say.{ReadsAs}
use Rattle.bits.specs.declared.cursor.BitCursor.{BitCursor}
use Rattle.bits.specs.declared.refusals.Refusal.{Refusal}
use Rattle.standard.specs.Numbers.{row_width, object_limit, start_length}
use Rattle.standard.specs.Tree as tree
use Rattle.standard.specs.Rows.{State}
use Rattle.standard.specs.Meaning.{start_rows}
use Rattle.standard.specs.Tables.{rows_numbers, rows_of}
use Rattle.standard.specs.Calls.{over}
use Rattle.standard.proofs.Starts.{start-length}
use Rattle.rows.specs.Kinds.{kind_said}
use Rattle.rows.specs.declared.row.Kind.{Kind}
use Rattle.rows.proofs.Written.{written_over, drop-written}
use Rattle.rows.proofs.Rows.{length-rows_numbers, rows_back}
use Rattle.oamd.specs.Frame.{elements_in}
use Rattle.oamd.specs.Say.{said_frame}
use Rattle.oamd.specs.Reading.{Framing}
use Rattle.oamd.specs.declared.tables.BlockTables.{BlockTables}

module _ (st : State) (ks : List tree.Kind) (z : List ℤ) where
  -- they are read again where they were written
  starts-back : rows_of (length ks) (over (rows_numbers (start_rows st ks)) z) ≡ start_rows st ks
  starts-back =
      let rs = start_rows st ks in
      rw (start-length st ks) at (rows_back rs (drop (length (rows_numbers rs)) z))

  -- what lies behind them stays
  pub starts-rest : length ks ≤ object_limit → start_length ≤ length z → drop start_length (over (rows_numbers (start_rows st ks)) z) ≡ drop start_length z
  unfolding start_length row_width object_limit
  starts-rest few long =
      let rs = start_rows st ks in
      let k = start-length st ks in
      let m = length-rows_numbers rs in
      rw (← written_over z (rows_numbers rs) (omega arith)) (drop-written start_length z 0 (rows_numbers rs) (omega arith))

module _ (st : State) (ks : List Kind) (z : List ℤ) {z' : List ℤ} (written : z' ≡ over (rows_numbers (start_rows st (map kind_said ks))) z) where
  begun : rows_of (length ks) z' ≡ start_rows st (map kind_said ks)
  begun =
      ap (λ n. rows_of n z') (sym (length-map ks kind_said)) ∙ ap (rows_of (length (map kind_said ks))) written ∙ starts-back st (map kind_said ks) z

  pub rest_stays : length ks ≤ object_limit → start_length ≤ length z → drop start_length z' ≡ drop start_length z
  rest_stays few long = rw written (starts-rest st (map kind_said ks) z (rw length-map few) long)

  -- the elements are read after them, and nothing was found before
  pub from_starts : (n : ℕ) (alternated : Bool) {t b : BlockTables} {c c' : BitCursor} {r : Result (Unit {0}) Refusal} → t.found ≡ None
      → Framing (elements_in (rows_of (length ks) z') n alternated (map kind_said ks) (said_frame t)) c t r c' b
      → ReadsAs (λ u. said_frame b) (elements_in (start_rows st (map kind_said ks)) n alternated (map kind_said ks) (record { found = none; blocks = t.blocks.now; timings = t.timings.now })) c r c'
  from_starts n alternated e h = rw (e, begun) at h.reads
