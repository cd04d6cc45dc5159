-- Reads inside an element, by a cursor of its own that ends with the element; and an element from its head to its end.
use Rattle.std.proofs.Common.{◌≡◌, ℕ, List, Bool, refl, ◌∙◌, subst, Result, Ok, Err}
use Rattle.bits.specs.Parsed.{Parser, Refusal, within, go_to}
use Rattle.bits.specs.Reads.{read, flag}
use Rattle.bits.specs.Say.{refusal, Reads, ReadsAs, ReadsBy}
use Rattle.bits.specs.declared.BitPlace.{BitPlace}
use Rattle.bits.specs.declared.cursor.BitCursor.{BitCursor}
use Rattle.bits.specs.declared.refusals.Refusal as said
use Rattle.bits.proofs.Reading.{HandsOn, stops, then, next, next_stops, done, here_is}
use Rattle.standard.specs.Contexts as context
use Rattle.standard.specs.Syntax.{alternate}
use Rattle.standard.specs.Tree.{Kind}
use Rattle.standard.specs.Rows.{Row}
use Rattle.oamd.specs.Head.{Head, element_end, enter, element_head}
use Rattle.oamd.specs.Frame.{content_in, element_in}
use Rattle.oamd.specs.Say.{said_place, said_frame}
use Rattle.oamd.specs.Reading.{Framing}
use Rattle.oamd.specs.declared.tables.BlockTables.{BlockTables}
use Rattle.oamd.proofs.Framing.{kept}

-- c with another end, and c at another place
abbrev pub ending : BitPlace → BitCursor → BitCursor
ending e c = record { payload = c.payload; limit = e; position = c.position }

abbrev pub standing : BitPlace → BitCursor → BitCursor
standing p c = record { payload = c.payload; limit = c.limit; position = p }

module _ {V A E : Type 0} {say : V → A} {why : E → Refusal} {m : Parser A} {c d : BitCursor} {e : BitPlace} where
  pub inside : {a : V} → ReadsBy say why m (ending e c) (Ok a) d → ReadsBy say why (within e.0 m) c (Ok a) (standing d.position c)
  unfolding within
  inside h = record { answer = h.answer; bytes = refl; end = refl }

  -- a refusal tells no place
  pub inside_stops : {W : Type 0} {say' : W → A} {x : E} (p : BitPlace) → ReadsBy say why m (ending e c) (Err x) d → ReadsBy say' why (within e.0 m) c (Err x) (standing p c)
  unfolding within
  inside_stops p h = record { answer = h.answer; bytes = refl; end = refl }

goes : {E : Type 0} {why : E → Refusal} (e : BitPlace) (c : BitCursor) → ReadsBy (λ u. u) why (go_to e.0) c (Ok tt) (standing e c)
unfolding go_to
goes e c = record { answer = refl; bytes = refl; end = refl }

-- An element

module _ (starts : List Row) (alternated : Bool) (kinds : List Kind) {c : BitCursor} where
  pub id_stops : {a : BlockTables} {c' : BitCursor} {x : said.Refusal} {r : Result (Unit {0}) said.Refusal} → Reads (read 4 context.element-id) c (Err x) c' → HandsOn x r
      → Framing (element_in starts alternated kinds (said_frame a)) c a r c' a
  unfolding element_in element_head
  id_stops h x = record { reads = stops {say = λ (k : Head). k} _ {r = _} (then _ here_is (stops _ h refl)) x; kept = kept }

  module _ {c₁ : BitCursor} {id : ℕ} (i : Reads (read 4 context.element-id) c (Ok id) c₁) where
    pub end_stops : {a : BlockTables} {c' : BitCursor} {x : said.Refusal} {r : Result (Unit {0}) said.Refusal} → ReadsAs said_place element_end c₁ (Err x) c' → HandsOn x r
        → Framing (element_in starts alternated kinds (said_frame a)) c a r c' a
    unfolding element_in element_head
    end_stops h x = record { reads = stops {say = λ (k : Head). k} _ (then _ here_is (then _ i (stops _ h refl))) x; kept = kept }

    module _ {c₂ : BitCursor} {end : BitPlace} (n : ReadsAs said_place element_end c₁ (Ok end) c₂) where
      -- what every element begins with is refused
      enter_stops : {a : BlockTables} {d : BitCursor} {x : said.Refusal} {r : Result (Unit {0}) said.Refusal} → ReadsBy {V = Unit {0}} (λ u. u) refusal (enter alternated) (ending end c₂) (Err x) d → HandsOn x r
          → Framing (element_in starts alternated kinds (said_frame a)) c a r c₂ a
      unfolding element_in element_head
      enter_stops h x =
          record { reads = stops {say = λ (k : Head). k} _ (then _ here_is (then _ i (then _ n (next_stops _ (inside_stops {W = Unit {0}} {say' = λ u. u} c₂.position h) refl)))) x; kept = kept }

      pub alternate_stops : {a : BlockTables} {d : BitCursor} {x : said.Refusal} {r : Result (Unit {0}) said.Refusal} → Reads (alternate alternated) (ending end c₂) (Err x) d → HandsOn x r
          → Framing (element_in starts alternated kinds (said_frame a)) c a r c₂ a
      unfolding enter
      alternate_stops h x = enter_stops (next_stops _ h refl) x

      module _ {d₁ : BitCursor} (l : Reads (alternate alternated) (ending end c₂) (Ok tt) d₁) where
        pub flag_stops : {a : BlockTables} {d : BitCursor} {x : said.Refusal} {r : Result (Unit {0}) said.Refusal} → Reads (flag context.discard-unknown-element-flag) d₁ (Err x) d → HandsOn x r
            → Framing (element_in starts alternated kinds (said_frame a)) c a r c₂ a
        unfolding enter
        flag_stops h x = enter_stops (next l (next_stops _ h refl)) x

        module _ {d₂ : BitCursor} {g : Bool} (f : Reads (flag context.discard-unknown-element-flag) d₁ (Ok g) d₂) where
          headed : ReadsBy (λ k. k) refusal (element_head alternated) c (Ok (record { at = c.position.0; id = id; end = end.0 })) (standing d₂.position c₂)
          unfolding element_head enter
          headed = then _ here_is (then _ i (then _ n (next {a = tt} (inside {V = Unit {0}} {say = λ u. u} (next l (next f done))) done)))

          -- the element's own cursor, as the payload's cursor with another end
          own : d₂ ≡ ending end (standing d₂.position c₂)
          own = λ i. record { payload = (f.bytes ∙ l.bytes) i; limit = (f.end ∙ l.end) i; position = d₂.position }

          module _ {a b : BlockTables} {d₃ : BitCursor} {r : Result (Unit {0}) said.Refusal} where
            framed : Framing (content_in starts kinds (record { at = c.position.0; id = id; end = d₂.limit.0 }) (said_frame a)) d₂ a r d₃ b
                → Framing (content_in starts kinds (record { at = c.position.0; id = id; end = end.0 }) (said_frame a)) (ending end (standing d₂.position c₂)) a r d₃ b
            framed h = subst (λ (d : BitCursor). Framing (content_in starts kinds (record { at = c.position.0; id = id; end = d.limit.0 }) (said_frame a)) d a r d₃ b) own h

          module _ {a b : BlockTables} {d₃ : BitCursor} where
            pub content_stops : {x : said.Refusal} {r : Result (Unit {0}) said.Refusal} → Framing (content_in starts kinds (record { at = c.position.0; id = id; end = d₂.limit.0 }) (said_frame a)) d₂ a (Err x) d₃ b → HandsOn x r
                → Framing (element_in starts alternated kinds (said_frame a)) c a r c₂ b
            unfolding element_in
            content_stops h x = record { reads = then _ headed (stops _ (inside_stops {W = Unit {0}} {say' = λ u. said_frame b} c₂.position (framed h).reads) x); kept = h.kept }

            pub element_ends : Framing (content_in starts kinds (record { at = c.position.0; id = id; end = d₂.limit.0 }) (said_frame a)) d₂ a (Ok tt) d₃ b
                → Framing (element_in starts alternated kinds (said_frame a)) c a (Ok tt) (standing end c₂) b
            unfolding element_in
            element_ends h = record { reads = then _ headed (then _ (inside (framed h).reads) (next (goes end _) done)); kept = h.kept }
