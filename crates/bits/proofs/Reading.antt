-- Reads in a row: what a read gives, and where it fails, through each way in which readings are put together.
use Rattle.std.proofs.Common.{◌≡◌, ℕ, List, Bool, true, false, cond, refl, ap, sym, ◌∙◌, Result, Ok, Err, IsErrAnd, subst}
use Rattle.std.specs.Result.{is_err, result_or}
use Rattle.std.proofs.lemmas.Bool.{false≢true}
use Rattle.bits.specs.Parsed.{Parser, Refusal, refused, ◌>>=◌, ◌>>◌, map_p, pure, refuse, refused_as, require, here, the_end}
use Rattle.bits.specs.Say.{said_by, ReadsBy}
use Rattle.bits.specs.declared.cursor.BitCursor.{BitCursor}
use Rattle.bits.proofs.Always.{Ok as Gives, Always}
use Rattle.bits.proofs.Tells.{About, Tells}

-- the error that the exit of a `?` hands on
abbrev pub HandsOn : {V E : Type 0} → E → Result V E → Type 0
HandsOn e r = IsErrAnd r (λ y. y ≡ e)

-- n is refused as m is, wherever m is
abbrev pub Falls : {A B : Type 0} → Parser A → Parser B → Type 0
Falls m n = (s : List ℕ) (l p : ℕ) (z : Refusal) → m s l p ≡ refused z → n s l p ≡ refused z

-- Of a value V the paper has A, of W it has B; an error E is told by `why`.
module _ {V W A B E : Type 0} {say : V → A} {why : E → Refusal} {m : Parser A} {c c' : BitCursor} where
  pub falls : (f : W → B) (n : Parser B) → Falls m n → {e : E} (r : Result W E) → ReadsBy say why m c (Err e) c' → HandsOn e r → ReadsBy f why n c r c'
  falls f n h (Ok b) g x = absurd x
  falls f n h (Err y) g x = record {
    answer = sym (h _ _ _ _ (sym g.answer) ∙ ap (λ y. refused (why y)) (sym x));
    bytes = g.bytes;
    end = g.end;
  }

  -- the first read fails, whatever follows
  pub stops : {say' : W → B} (k : A → Parser B) {e : E} {r : Result W E} → ReadsBy say why m c (Err e) c' → HandsOn e r → ReadsBy say' why (m >>= k) c r c'
  unfolding ◌>>=◌
  stops {say'} k {e} {r} = falls say' (m >>= k) (λ s l p z is. rw is refl) r

  pub then : {say' : W → B} (k : A → Parser B) {a : V} {r : Result W E} {c'' : BitCursor} → ReadsBy say why m c (Ok a) c' → ReadsBy say' why (k (say a)) c' r c'' → ReadsBy say' why (m >>= k) c r c''
  unfolding ◌>>=◌
  then k h g = record {
    answer = rw (← h.answer) (rw (h.bytes, h.end) at g.answer);
    bytes = g.bytes ∙ h.bytes;
    end = g.end ∙ h.end;
  }

  -- the same where what the first read gives is dropped
  pub next_stops : {say' : W → B} (n : Parser B) {e : E} {r : Result W E} → ReadsBy say why m c (Err e) c' → HandsOn e r → ReadsBy say' why (m >> n) c r c'
  unfolding ◌>>◌
  next_stops {say'} n {e} {r} = falls say' (m >> n) (λ s l p z is. rw is refl) r

  pub next : {say' : W → B} {n : Parser B} {a : V} {r : Result W E} {c'' : BitCursor} → ReadsBy say why m c (Ok a) c' → ReadsBy say' why n c' r c'' → ReadsBy say' why (m >> n) c r c''
  unfolding ◌>>◌
  next h g = record {
    answer = rw (← h.answer) (rw (h.bytes, h.end) at g.answer);
    bytes = g.bytes ∙ h.bytes;
    end = g.end ∙ h.end;
  }

  -- the same where f makes of it what is given
  pub stops_with : {say' : W → B} (f : A → B) {e : E} {r : Result W E} → ReadsBy say why m c (Err e) c' → HandsOn e r → ReadsBy say' why (map_p f m) c r c'
  unfolding map_p
  stops_with {say'} f {e} {r} = falls say' (map_p f m) (λ s l p z is. rw is refl) r

  pub then_as : {say' : W → B} (f : A → B) {a : V} {b : W} → f (say a) ≡ say' b → ReadsBy say why m c (Ok a) c' → ReadsBy say' why (map_p f m) c (Ok b) c'
  unfolding map_p
  then_as {say'} f {a} {b} is h = record { answer = rw (← h.answer, ← is) refl; bytes = h.bytes; end = h.end }

module _ {V A B E : Type 0} {say : V → A} {why : E → Refusal} {m : Parser A} {c c' : BitCursor} where
  pub then_with : (f : A → B) {a : V} → ReadsBy say why m c (Ok a) c' → ReadsBy (λ b. b) why (map_p f m) c (Ok (f (say a))) c'
  then_with f = then_as f refl

module _ {V A E : Type 0} {say : V → A} {why : E → Refusal} {c : BitCursor} where
  -- nothing is read
  pub done : {a : V} → ReadsBy say why (pure (say a)) c (Ok a) c
  unfolding pure
  done = record { answer = refl; bytes = refl; end = refl }

  -- nothing is read, and what is given says t
  pub done_as : {a : V} {t : A} → t ≡ say a → ReadsBy say why (pure t) c (Ok a) c
  done_as is = rw is done

  pub refuses : {e : E} {z : Refusal} → why e ≡ z → ReadsBy say why (refuse z) c (Err e) c
  unfolding refuse
  refuses h = record { answer = ap refused h; bytes = refl; end = refl }

  module _ {c' : BitCursor} {b : Bool} {r : Result V E} where
    pub on_true : {m : Parser A} (n : Parser A) → b ≡ true → ReadsBy say why m c r c' → ReadsBy say why (cond b m n) c r c'
    on_true {m} n h = subst (λ b. ReadsBy say why m c r c' → ReadsBy say why (cond b m n) c r c') (sym h) (λ x. x)

    pub on_false : (m : Parser A) {n : Parser A} → b ≡ false → ReadsBy say why n c r c' → ReadsBy say why (cond b m n) c r c'
    on_false m {n} h = subst (λ b. ReadsBy say why n c r c' → ReadsBy say why (cond b m n) c r c') (sym h) (λ x. x)

module _ {V A E : Type 0} {say : V → A} {why : E → Refusal} {m : Parser A} {c c' : BitCursor} where
  -- where m is refused, e is given in place of its refusal
  pub instead : (e : E) (r : Result V E) → ReadsBy say why m c r c' → ReadsBy say why (refused_as (why e) m) c (result_or r (Err e)) c'
  unfolding refused_as
  instead e (Ok a) h = record { answer = rw (← h.answer) refl; bytes = h.bytes; end = h.end }
  instead e (Err y) h = record { answer = rw (← h.answer) refl; bytes = h.bytes; end = h.end }

  -- where m is refused, the answer says nothing of the place: the cursor may stand anywhere
  pub anywhere : (e : E) {r : Result V E} {k : BitCursor} → HandsOn e r → k.payload ≡ c.payload → k.limit ≡ c.limit → ReadsBy say why m c r c' → ReadsBy say why m c r k
  anywhere e {r = Ok a} x b l h = absurd x
  anywhere e {r = Err y} x b l h = record { answer = h.answer; bytes = b; end = l }

  pub put_back : (r : Result V E) {k : BitCursor} → is_err r ≡ true → k.payload ≡ c.payload → k.limit ≡ c.limit → ReadsBy say why m c r c' → ReadsBy say why m c r k
  put_back (Ok a) x b l h = absurd (false≢true x)
  put_back (Err y) x b l h = anywhere y refl b l h

  -- what a value that m gave has
  pub has : {P : A → Type 0} {a : V} → Always P m → ReadsBy say why m c (Ok a) c' → P (say a)
  has {P} h g = subst (Gives P) (sym g.answer) (h.ok _ _ _)

  -- what the answer tells of places, and of a refusal
  pub tells : {R : About A} {r : Result V E} → Tells R m → ReadsBy say why m c r c' → R c.payload.now c.limit.0 c.position.0 (said_by say why r c'.position.0)
  tells {R} h g = subst (R _ _ _) (sym g.answer) (h.tells _ _ _)

module _ {E : Type 0} {why : E → Refusal} {b : Bool} {c : BitCursor} where
  -- a test of what was read: it passes, or it refuses
  pub required : (z : Refusal) → b ≡ true → ReadsBy (λ (u : Unit {0}). u) why (require b z) c (Ok tt) c
  unfolding require
  required z h = on_true _ h done

  pub unmet : {z : Refusal} {e : E} → b ≡ false → why e ≡ z → ReadsBy (λ (u : Unit {0}). u) why (require b z) c (Err e) c
  unfolding require
  unmet h e = on_false _ h (refuses e)

  module _ {V A : Type 0} {say : V → A} where
    pub passes : (z : Refusal) {n : Parser A} {r : Result V E} {c' : BitCursor} → b ≡ true → ReadsBy say why n c r c' → ReadsBy say why (require b z >> n) c r c'
    passes z h g = next (required z h) g

    pub fails : {z : Refusal} (n : Parser A) {e : E} → b ≡ false → why e ≡ z → ReadsBy say why (require b z >> n) c (Err e) c
    fails n h e = next_stops n (unmet h e) refl

module _ {V W A E : Type 0} {say : V → A} {say' : W → A} {why : E → Refusal} {m : Parser A} {c c' : BitCursor} where
  -- the refusal of the last read is given as it is
  pub handed_on : {e : E} {r : Result W E} → ReadsBy say why m c (Err e) c' → HandsOn e r → ReadsBy say' why m c r c'
  handed_on {r = r} = falls say' m (λ s l p z is. is) r

pub here_is : {E : Type 0} {why : E → Refusal} {c : BitCursor} → ReadsBy (λ a. a) why here c (Ok c.position.0) c
unfolding here
here_is = record { answer = refl; bytes = refl; end = refl }

pub end_is : {E : Type 0} {why : E → Refusal} {c : BitCursor} → ReadsBy (λ a. a) why the_end c (Ok c.limit.0) c
unfolding the_end
end_is = record { answer = refl; bytes = refl; end = refl }

-- What is left to read: m at c gives what m₀ gives at c₀, as a loop keeps it.
pub record Leads {A : Type 0} (m₀ : Parser A) (c₀ : BitCursor) (m : Parser A) (c : BitCursor) : Type 0 where
  pub same : m₀ c₀.payload.now c₀.limit.0 c₀.position.0 ≡ m c.payload.now c.limit.0 c.position.0
  pub bytes : c.payload ≡ c₀.payload
  pub end : c.limit ≡ c₀.limit

pub begins : {A : Type 0} {m₀ m : Parser A} {c : BitCursor} → ((s : List ℕ) (e p : ℕ) → m₀ s e p ≡ m s e p) → Leads m₀ c m c
begins h = record { same = h _ _ _; bytes = refl; end = refl }

module _ {A : Type 0} {m₀ : Parser A} {c₀ c : BitCursor} where
  pub leads_to : {m m' : Parser A} → Leads m₀ c₀ m c → ((s : List ℕ) (e p : ℕ) → m s e p ≡ m' s e p) → Leads m₀ c₀ m' c
  leads_to l h = record { same = l.same ∙ h _ _ _; bytes = l.bytes; end = l.end }

  module _ {V E : Type 0} {say : V → A} {why : E → Refusal} {m : Parser A} {r : Result V E} {c' : BitCursor} where
    pub ends : Leads m₀ c₀ m c → ReadsBy say why m c r c' → ReadsBy say why m₀ c₀ r c'
    ends l h = record { answer = h.answer ∙ sym l.same; bytes = h.bytes ∙ l.bytes; end = h.end ∙ l.end }

  module _ {V B E : Type 0} {say : V → B} {why : E → Refusal} {m : Parser B} (k : B → Parser A) {c' : BitCursor} (l : Leads m₀ c₀ (m >>= k) c) where
    -- a turn: m is read, and k is left
    pub turns : {a : V} → ReadsBy say why m c (Ok a) c' → Leads m₀ c₀ (k (say a)) c'
    unfolding ◌>>=◌
    turns h = record { same = l.same ∙ rw (← h.answer, h.bytes, h.end) refl; bytes = h.bytes ∙ l.bytes; end = h.end ∙ l.end }

    pub turn_stops : {W : Type 0} {say' : W → A} {e : E} {r : Result W E} → ReadsBy say why m c (Err e) c' → HandsOn e r → ReadsBy say' why m₀ c₀ r c'
    turn_stops h x = ends l (stops k h x)
