-- Determinacy, of each public call's own `ensures`: two ends that meet it for one entry show the same answer and the same lists.
use Rattle.std.proofs.Common.{◌≡◌, ℕ, List, ℤ, Result, Ok, Err, refl, sym, ap, ◌∙◌}
use Rattle.standard.specs.Calls.{Lent, Answer}
use Rattle.standard.specs.Journal as paper
use Rattle.rows.proofs.Determined.{Determines}
use Rattle.oamd.specs.Promises.{lent, said_decoded}
use Rattle.oamd.proofs.Determined.{same_decoded}
use Rattle.journals.specs.Say.{said_found, said_reply}
use Rattle.journals.specs.Promises.{Left}
use Rattle.journals.specs.Turns.{Happened, replied, waits, stops, Turned, said_turn, TurnLeft}
use Rattle.journals.specs.declared.records.Pause.{Pause}
use Rattle.journals.specs.declared.records.Pause.TheVariants.{More, Unknown}
use Rattle.journals.specs.declared.replies.Reply.{Reply}
use Rattle.journals.specs.declared.replies.Reply.TheVariants.{Answered, Noted, Cleared, Started}
use Rattle.journals.specs.declared.turns.Turn.{Turn}
use Rattle.journals.proofs.records.step.Reads as step
use Rattle.journals.proofs.replies.reply_to.Reads as reply-to
use Rattle.journals.proofs.turns.advance.Reads as advance

-- a reference to a payload is seen as its bytes
pub step-determined : Determines step.Post (λ κs f s. said_found f)
step-determined κs a f f' s s' p q = p.said ∙ sym q.said

-- what an answer says, tells it

-- or else z
answer_of : Answer → paper.Reply → Answer
answer_of z (paper.answered a) = a
answer_of z paper.noted = z
answer_of z paper.cleared = z
answer_of z paper.started = z

same_reply : (a b : Reply) → said_reply a ≡ said_reply b → a ≡ b
unfolding answer_of
same_reply (Answered d) (Answered d') e = ap Answered (same_decoded d d' (ap (answer_of (said_decoded d)) e))
same_reply (Answered d) Noted e = let z : ⊥ = cc in absurd z
same_reply (Answered d) Cleared e = let z : ⊥ = cc in absurd z
same_reply (Answered d) Started e = let z : ⊥ = cc in absurd z
same_reply Noted (Answered d') e = let z : ⊥ = cc in absurd z
same_reply Noted Noted e = refl
same_reply Noted Cleared e = let z : ⊥ = cc in absurd z
same_reply Noted Started e = let z : ⊥ = cc in absurd z
same_reply Cleared (Answered d') e = let z : ⊥ = cc in absurd z
same_reply Cleared Noted e = let z : ⊥ = cc in absurd z
same_reply Cleared Cleared e = refl
same_reply Cleared Started e = let z : ⊥ = cc in absurd z
same_reply Started (Answered d') e = let z : ⊥ = cc in absurd z
same_reply Started Noted e = let z : ⊥ = cc in absurd z
same_reply Started Cleared e = let z : ⊥ = cc in absurd z
same_reply Started Started e = refl

-- or else z
reply_of : paper.Reply → Happened → paper.Reply
reply_of z (replied r k) = r
reply_of z waits = z
reply_of z stops = z

used_of : Happened → ℕ
used_of (replied r k) = k
used_of waits = 0
used_of stops = 0

same_turn : (x y : Result Turn Pause) → said_turn x ≡ said_turn y → x ≡ y
unfolding reply_of used_of
same_turn (Ok t) (Ok u) e =
    let reply = same_reply t.reply u.reply (ap (reply_of (said_reply t.reply)) e) in
    let used = ap used_of e in
    λ i. Ok (record { reply = reply i; used = used i })
same_turn (Ok t) (Err More) e = let z : ⊥ = cc in absurd z
same_turn (Ok t) (Err Unknown) e = let z : ⊥ = cc in absurd z
same_turn (Err More) (Ok u) e = let z : ⊥ = cc in absurd z
same_turn (Err More) (Err More) e = refl
same_turn (Err More) (Err Unknown) e = let z : ⊥ = cc in absurd z
same_turn (Err Unknown) (Ok u) e = let z : ⊥ = cc in absurd z
same_turn (Err Unknown) (Err More) e = let z : ⊥ = cc in absurd z
same_turn (Err Unknown) (Err Unknown) e = refl

-- what is seen at the end
pub record End (A : Type 0) : Type 0 where
  pub answer : A
  pub tables : Lent

module _ {A : Type 0} where
  abbrev pub ended : A → Lent → End A
  ended a l = record { answer = a; tables = l }

  pub ended_is : {a a' : A} {r s b : List ℤ} {t : List ℕ} {l : Lent} → a ≡ a' → r ≡ l.retained → s ≡ l.start → b ≡ l.blocks → t ≡ l.timings
      → ended a (lent r s b t) ≡ ended a' l
  ended_is a r s b t = λ i. ended (a i) (lent (r i) (s i) (b i) (t i))

module _ {r s b r' s' b' : List ℤ} {t t' : List ℕ} where
  reply-is : {d : paper.Replied} {a a' : Reply} → Left d a r s b t → Left d a' r' s' b' t' → ended a (lent r s b t) ≡ ended a' (lent r' s' b' t')
  reply-is {d} {a} {a'} p q =
      let same = same_reply a a' (p.reply ∙ sym q.reply) in
      λ i. ended (same i) (lent ((p.retained ∙ sym q.retained) i) ((p.start ∙ sym q.start) i) ((p.blocks ∙ sym q.blocks) i) ((p.timings ∙ sym q.timings) i))

  turn_is : {d : Turned} {arrived : List ℕ} {x x' : Result Turn Pause} → TurnLeft d arrived x r s b t → TurnLeft d arrived x' r' s' b' t'
      → ended x (lent r s b t) ≡ ended x' (lent r' s' b' t')
  turn_is {d} {arrived} {x} {x'} p q =
      let same = same_turn x x' (p.said ∙ sym q.said) in
      λ i. ended (same i) (lent ((p.retained ∙ sym q.retained) i) ((p.start ∙ sym q.start) i) ((p.blocks ∙ sym q.blocks) i) ((p.timings ∙ sym q.timings) i))

pub reply-to-determined : Determines {Seen = End Reply} reply-to.Post (λ κs r s. ended r (lent s.1.0.now s.1.1.0.now s.1.1.1.0.now s.1.1.1.1.0.now))
reply-to-determined κs a r r' s s' p q = reply-is p q

pub advance-determined : Determines {Seen = End (Result Turn Pause)} advance.Post (λ κs x s. ended x (lent s.1.0.now s.1.1.0.now s.1.1.1.0.now s.1.1.1.1.0.now))
advance-determined κs a x x' s s' p q = turn_is p q
