-- What is left to read is the later groups, of the value so far.
use Rattle.std.proofs.Common.{◌≡◌, ℕ, zero, suc, ◌+◌, ◌*◌, ◌-◌, ◌^◌, ◌≤◌, ◌<◌, true, false, Result, Ok, Err, refl, sym, arith, rules, subst, IsErrAnd}
use Rattle.std.specs.Result.{result_or}
use Rattle.bits.specs.Parsed.{limit, refused_as}
use Rattle.bits.specs.Reads.{read, flag, later_groups, variable_bits}
use Rattle.bits.specs.Say.{refusal, Reads}
use Rattle.bits.specs.declared.refusals.Refusal.{Refusal}
use Rattle.bits.specs.declared.cursor.BitCursor.{BitCursor}
use Rattle.bits.proofs.Fields.{read-lt}
use Rattle.bits.proofs.Groups.{refused_as_lem, Small, small-first, small-next, small}
use Rattle.bits.proofs.Reading.{refuses, then, stops, here_is, has, done, instead, anywhere}
use Rattle.bits.proofs.cursor.BitCursor.read_variable_bits_max.Goals as goal

pub returns-in_err-value-clause-reads : goal.returns-in_err-value-clause-reads
unfolding variable_bits
returns-in_err-value-clause-reads c =
    let e = c.from_residual.ensures.1 in
    anywhere _ e refl refl (then _ here_is (stops _ c.in_err-value.ensures.reads e))

pub loop-groups-init : goal.loop-groups-init
unfolding variable_bits
loop-groups-init c = record {
  small = small-first _ c.requires _ (has (read-lt _ _) c.in_ok-value.ensures.reads);
  kept = refl;
  rest = λ r d h. then _ here_is (then _ c.in_ok-value.ensures.reads h);
}

module _ (w c first v : ℕ) {b b' : BitCursor} where
  -- the flag is cut short, or it ends the number
  flag_cut : (k : ℕ) {e : Refusal} {r : Result ℕ Refusal} → Reads (flag c) b (Err e) b' → IsErrAnd r (λ y. y ≡ e) → Reads (later_groups w c first k v) b r b'
  unfolding later_groups
  flag_cut zero h x = stops _ h x
  flag_cut (suc k) h x = stops _ h x

  last_group : (k : ℕ) → Reads (flag c) b (Ok false) b' → Reads (later_groups w c first k v) b (Ok v) b'
  unfolding later_groups
  last_group zero h = then _ h done
  last_group (suc k) h = then _ h done

  fifth_group : {e : Refusal} → refusal e ≡ limit c first → Reads (flag c) b (Ok true) b' → Reads (later_groups w c first 0 v) b (Err e) b'
  unfolding later_groups
  fifth_group e h = then _ h (refuses e)

  -- another group is cut short, or it is read
  module _ (k n : ℕ) (less : n ≡ suc k) (more : Reads (flag c) b (Ok true) b') {b'' : BitCursor} where
    group_cut : {e : Refusal} {r : Result ℕ Refusal} → Reads (refused_as (limit c first) (read w c)) b' (Err e) b'' → IsErrAnd r (λ y. y ≡ e) → Reads (later_groups w c first n v) b r b''
    unfolding later_groups
    group_cut g x = rw less (then _ more (stops _ g x))

    next_group : {g : ℕ} {r : Result ℕ Refusal} {d : BitCursor} → Reads (refused_as (limit c first) (read w c)) b' (Ok g) b'' → Reads (later_groups w c first k (v * 2 ^ w + 2 ^ w + g)) b'' r d → Reads (later_groups w c first n v) b r d
    unfolding later_groups
    next_group g i = rw less (then _ more (then _ g i))

pub returns-in_err-another-clause-reads : goal.returns-in_err-another-clause-reads
returns-in_err-another-clause-reads c =
    let e = c.from_residual-in_err-another.ensures.1 in
    let cut = flag_cut _ _ _ _ _ (subst (λ r. Reads (flag c.args.context) c.loop-groups.ahead r c.read_flag.new.self) c.in_err-another.was c.read_flag.ensures.reads) e in
    rw c.loop-groups.invariant.kept (anywhere _ e refl refl (c.loop-groups.invariant.rest _ _ cut))

pub returns-in_err-another-clause-stays : goal.returns-in_err-another-clause-stays
returns-in_err-another-clause-stays c = rw c.loop-groups.invariant.kept (search rules)

pub returns-then-not-another-clause-reads : goal.returns-then-not-another-clause-reads
returns-then-not-another-clause-reads c =
    c.loop-groups.invariant.rest _ _ (last_group _ _ _ _ _ (rw c.if-not-another.true at c.in_ok-another.ensures.reads))

-- the refusal of a group that is cut short is that of the number
limited : (w : ℕ) {c first : ℕ} {b b' : BitCursor} {r r' : Result ℕ Refusal} (e : Refusal) → refusal e ≡ limit c first → r' ≡ result_or r (Err e) → Reads (read w c) b r b' → Reads (refused_as (limit c first) (read w c)) b r' b'
limited w {c} {first} {b} {b'} {r} {r'} e is or h =
    subst (λ z. Reads (refused_as z (read w c)) b r' b') is (subst (λ z. Reads (refused_as (refusal e) (read w c)) b z b') (sym or) (instead e r h))

pub returns-in_err-group-clause-reads : goal.returns-in_err-group-clause-reads
returns-in_err-group-clause-reads c =
    let g = limited c.args.width c.limit-limited.result c.limit-limited.ensures c.or.ensures c.read-in-loop-groups.ensures.reads in
    let e = c.from_residual-in_err-group.ensures.1 in
    let cut = group_cut _ _ _ _ (3 - c.loop-groups._groups) _ (omega arith) (rw c.if-not-another.false at c.in_ok-another.ensures.reads) (rw c.in_err-group.was at g) e in
    rw c.loop-groups.invariant.kept (anywhere _ e refl refl (c.loop-groups.invariant.rest _ _ cut))

pub returns-in_err-group-clause-stays : goal.returns-in_err-group-clause-stays
returns-in_err-group-clause-stays c = rw c.loop-groups.invariant.kept (search rules)

next_small : (w k value group : ℕ) → w ≤ 4 → k < 4 → group < 2 ^ w → Small (4 - k) value → Small (4 - (k + 1)) (value * 2 ^ w + 2 ^ w + group)
next_small w k value group le lt g s = small-next w le value (4 - (k + 1)) group g (subst (λ n. Small n value) (omega arith) s)

-- the flag is set, and the group that follows is read
group_read : (c : goal.In_ok-group) → Reads (refused_as (limit c.args.context c.args.self.now.position.0) (read c.args.width c.args.context)) c.read_flag.new.self (Ok c.in_ok-group.group) c.read-in-loop-groups.new.self
group_read c = rw c.in_ok-group.was at (limited c.args.width c.limit-limited.result c.limit-limited.ensures c.or.ensures c.read-in-loop-groups.ensures.reads)

stays_small : (c : goal.In_ok-group) → Small (4 - (c.loop-groups._groups + 1)) (c.loop-groups.value * 2 ^ c.args.width + 2 ^ c.args.width + c.in_ok-group.group)
stays_small c =
    next_small _ _ _ _ c.requires c.loop-groups-test.true (has (refused_as_lem _ (read-lt _ _)) (group_read c)) c.loop-groups.invariant.small

pub loop-groups-preserved : goal.loop-groups-preserved
loop-groups-preserved c =
    let g = group_read c in
    record {
      small = rw c.two_to-span.ensures (stays_small c);
      kept = c.loop-groups.invariant.kept;
      rest = λ r d h. c.loop-groups.invariant.rest _ _ (next_group _ _ _ _ (4 - (c.loop-groups._groups + 1)) _ (omega arith) (rw c.if-not-another.false at c.in_ok-another.ensures.reads) g (rw c.two_to-span.ensures at h));
    }

pub overflow_mul-value : goal.overflow_mul-value
overflow_mul-value c = rw c.two_to-span.ensures (omega (arith, small (stays_small c)))

pub overflow_add-value : goal.overflow_add-value
overflow_add-value c = rw c.two_to-span.ensures (omega (arith, small (stays_small c)))

pub overflow_add-value-in-loop-groups : goal.overflow_add-value-in-loop-groups
overflow_add-value-in-loop-groups c = rw c.two_to-span.ensures (omega (arith, small (stays_small c)))

pub returns-in_err-more-clause-reads : goal.returns-in_err-more-clause-reads
returns-in_err-more-clause-reads c =
    let e = c.from_residual-in_err-more.ensures.1 in
    rw c.loop-groups.invariant.kept (anywhere _ e refl refl (c.loop-groups.invariant.rest _ _ (flag_cut _ _ _ _ _ c.in_err-more.ensures.reads e)))

pub returns-in_err-more-clause-stays : goal.returns-in_err-more-clause-stays
returns-in_err-more-clause-stays c = rw c.loop-groups.invariant.kept (search rules)

pub returns-then-more-clause-reads : goal.returns-then-more-clause-reads
returns-then-more-clause-reads c =
    let none : 4 - c.loop-groups._groups ≡ 0 = omega arith in
    rw c.loop-groups.invariant.kept
    (anywhere {c' = c.read_flag-2.new.self} _ refl refl refl (c.loop-groups.invariant.rest _ _ (rw none (fifth_group _ _ _ _ c.limit-limited.ensures (rw c.if-more.true at c.in_ok-more.ensures.reads)))))

pub returns-then-more-clause-stays : goal.returns-then-more-clause-stays
returns-then-more-clause-stays c = c.loop-groups.invariant.kept

pub returns-clause-reads : goal.returns-clause-reads
returns-clause-reads c =
    c.loop-groups.invariant.rest _ _ (last_group _ _ _ _ _ (rw c.if-more.false at c.in_ok-more.ensures.reads))
