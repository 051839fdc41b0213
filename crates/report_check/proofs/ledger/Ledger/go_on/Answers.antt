use Rattle.std.proofs.Common.{◌≡◌, ℕ, ◌+◌, ◌-◌, ◌≤◌, ◌↔◌, ◌&&◌, Bool, leb, List, length, refl, sym, ◌∙◌, ap, subst, arith}
use Rattle.cycle_history.specs.Before.{objects_before}
use Rattle.cycle_history.proofs.Firsts.{before-le, before-rise}
use Rattle.trace_reader.specs.declared.trace.Cycle.{Cycle}
use Rattle.trace_reader.specs.declared.trace.Event.{Event}
use Rattle.page_alloc.specs.Lists.{count}
use Rattle.trace_reader.specs.declared.trace.Trace.{Trace}
use Rattle.cycle_history.specs.declared.Report.{Report}
use Rattle.cycle_history.specs.Requests.{marked_by}
use Rattle.cycle_history.specs.Objects.{freed, kept}
use Rattle.cycle_history.specs.Sweeps.{IsUsedAgain}
use Rattle.report_check.specs.declared.items.Item.{Item}
use Rattle.report_check.specs.Items.{objects_of}
use Rattle.report_check.specs.Known.{AreKnownItems}
use Rattle.report_check.specs.declared.ledger.Alive.{Alive}
use Rattle.report_check.specs.declared.ledger.Tally.{Tally}
use Rattle.report_check.specs.Tallies.{AreTallied, CountsAlive, freed_in, is_freed, is_kept, kept_in, tally_at}
use Rattle.report_check.specs.Ledgers.{AddsItems, AreUsed, used_at}
use Rattle.report_check.proofs.Ledgers.{open-later, items-inside, next-first, vec-len, written, alive-next, ascends, kept-counted, freed-counted, used-again}
use Rattle.report_check.proofs.ledger.Ledger.go_on.Goals as goal

pub take_up-requires-clause-open : goal.take_up-requires-clause-open
take_up-requires-clause-open c =
    open-later c.args.objects.now.trace.now c.args.objects.now.report.now (c.args.cycle - 1 - 1) (c.args.cycle - 1) c.args.self.now.before (omega arith) c.requires.ledger.before

pub take_up-requires-2-clause-open : goal.take_up-requires-2-clause-open
take_up-requires-2-clause-open c = open-later c.args.objects.now.trace.now c.args.objects.now.report.now (c.args.cycle - 1) c.args.cycle c.args.self.now.after (omega arith) c.requires.ledger.after

pub overflow_add-last : goal.overflow_add-last
overflow_add-last c =
    let t = c.args.objects.now.trace.now in
    let inside = c.requires.inside in
    let some = c.requires.some in
    let long = ap (λ (cs : List Cycle). length cs) c.as_slice.ensures in
    let e = next-first t c.as_slice.result.now c.args.cycle c.args.self.now.seen (length c.as_slice-events.result.now) c.index-as_slice-cycle.result c.as_slice.ensures (omega arith) c.requires.ledger.seen
    (ap (λ (es : List Event). length es) c.as_slice-events.ensures) in
    let room = items-inside t c.args.objects.now.report.now c.args.objects.now.items.now c.args.objects.now.lasts.now (c.args.cycle + 1) c.requires.known in
    let le = before-le t (c.args.cycle + 1) in
    let few = c.requires.known.limited.objects in
    omega arith

pub add_all-requires-clause-last : goal.add_all-requires-clause-last
add_all-requires-clause-last c =
    let t = c.args.objects.now.trace.now in
    let inside = c.requires.inside in
    let some = c.requires.some in
    let long = ap (λ (cs : List Cycle). length cs) c.as_slice.ensures in
    let e = next-first t c.as_slice.result.now c.args.cycle c.args.self.now.seen (length c.as_slice-events.result.now) c.index-as_slice-cycle.result c.as_slice.ensures (omega arith) c.requires.ledger.seen
    (ap (λ (es : List Event). length es) c.as_slice-events.ensures) in
    let room = items-inside t c.args.objects.now.report.now c.args.objects.now.items.now c.args.objects.now.lasts.now (c.args.cycle + 1) c.requires.known in
    omega arith

-- the objects that live once those of the cycle came
alive-at : (t : Trace) (report : Report) (items : List Item) (lasts : List ℕ) (cycle m n : ℕ) (old kept new : List Alive) (used used' : List ℕ) → AreKnownItems t report items lasts → 1 ≤ cycle → m ≡ objects_before t cycle → n ≡ objects_before t (cycle + 1)
    → CountsAlive t items lasts (cycle - 1) m old → ((test : Alive → Bool) → count test kept ≡ count (λ (a : Alive). leb cycle a.last && test a) old) → AddsItems items lasts m n kept new used used' → CountsAlive t items lasts cycle n new
alive-at t report items lasts cycle m n old kept new used used' known some first last counts survive adds =
    let c = cycle - 1 in
    let e : c + 1 ≡ cycle = omega arith in
    let f : c + 2 ≡ cycle + 1 = omega arith in
    let next = alive-next t report items lasts c m n old kept new used used' known (first ∙ ap (λ (k : ℕ). objects_before t k) (sym e)) (last ∙ ap (λ (k : ℕ). objects_before t k) (sym f)) counts
    (λ test. survive test ∙ ap (λ (k : ℕ). count (λ (a : Alive). leb k a.last && test a) old) (sym e)) adds in
    subst (λ (k : ℕ). CountsAlive t items lasts k n new) e next

pub returns-clause-ledger : goal.returns-clause-ledger
returns-clause-ledger c =
    let t = c.args.objects.now.trace.now in
    let report = c.args.objects.now.report.now in
    let items = c.args.objects.now.items.now in
    let lasts = c.args.objects.now.lasts.now in
    let cycle = c.args.cycle in
    let was = c.requires.ledger in
    let inside = c.requires.inside in
    let some = c.requires.some in
    let long = ap (λ (cs : List Cycle). length cs) c.as_slice.ensures in
    let seen = next-first t c.as_slice.result.now cycle c.args.self.now.seen (length c.as_slice-events.result.now) c.index-as_slice-cycle.result c.as_slice.ensures (omega arith) was.seen
    (ap (λ (es : List Event). length es) c.as_slice-events.ensures) in
    let n = objects_before t (cycle + 1) in
    let adds = subst (λ (k : ℕ). AddsItems items lasts c.args.self.now.seen k c.in_ok-self.field-0.items c.add_all.new.alive.items c.deref_mut-2.result.now c.add_all.new.used) seen c.in_ok-add_all.ensures in
    let adds' = subst (λ (k : ℕ). AddsItems items lasts k n c.in_ok-self.field-0.items c.add_all.new.alive.items c.deref_mut-2.result.now c.add_all.new.used) was.seen adds in
    let adds'' = subst (λ (us : List ℕ). AddsItems items lasts (objects_before t cycle) n c.in_ok-self.field-0.items c.add_all.new.alive.items us c.add_all.new.used) c.deref_mut-2.ensures.value adds' in
    let rise = before-rise t cycle (cycle + 1) (omega arith) in
    let used-long : length c.add_all.new.used ≡ c.args.self.now.used.len = c.add_all.auto.used ∙ c.deref_mut-2.ensures.len in
    let used = written c.args.self.now.used.len c.add_all.new.used c.args.self.now.used.items used-long in
    let tallies-long : length c.tally_all.new.tallies ≡ c.args.self.now.tallies.len = c.tally_all.auto.tallies ∙ c.deref_mut.ensures.len in
    let tallies = written c.args.self.now.tallies.len c.tally_all.new.tallies c.args.self.now.tallies.items tallies-long in
    record {
      before = c.take_up.ensures.open;
      after = c.take_up-2.ensures.open;
      seen = seen;
      alive = alive-at t report items lasts cycle (objects_before t cycle) n c.args.self.now.alive.items c.in_ok-self.field-0.items c.add_all.new.alive.items c.args.self.now.used.items c.add_all.new.used c.requires.known some refl refl was.alive
          (λ test. c.in_ok-self.ensures test ∙ ap (λ (xs : List Alive). count (λ (a : Alive). leb cycle a.last && test a) xs) c.deref-2.ensures.value) adds'';
      tallies = λ life. subst (λ (ts : List Tally). (tally_at ts life).cycle ≤ cycle) (sym tallies) (c.tally_all.ensures.newest life);
      used = subst (λ (us : List ℕ). AreUsed items n us) (sym used) (adds''.uses was.used rise (ascends t report items lasts n c.requires.known));
      room = (
        ap (λ (ts : List Tally). length ts) tallies ∙ (tallies-long ∙ (sym (vec-len c.args.self.now.tallies) ∙ was.room.0)),
        ap (λ (us : List ℕ). length us) used ∙ (used-long ∙ (sym (vec-len c.args.self.now.used) ∙ was.room.1)),
      );
    }

pub returns-clause-tells : goal.returns-clause-tells
returns-clause-tells c =
    let t = c.args.objects.now.trace.now in
    let report = c.args.objects.now.report.now in
    let items = c.args.objects.now.items.now in
    let lasts = c.args.objects.now.lasts.now in
    let cycle = c.args.cycle in
    let was = c.requires.ledger in
    let inside = c.requires.inside in
    let some = c.requires.some in
    let long = ap (λ (cs : List Cycle). length cs) c.as_slice.ensures in
    let seen = next-first t c.as_slice.result.now cycle c.args.self.now.seen (length c.as_slice-events.result.now) c.index-as_slice-cycle.result c.as_slice.ensures (omega arith) was.seen
    (ap (λ (es : List Event). length es) c.as_slice-events.ensures) in
    let n = objects_before t (cycle + 1) in
    let adds = subst (λ (k : ℕ). AddsItems items lasts c.args.self.now.seen k c.in_ok-self.field-0.items c.add_all.new.alive.items c.deref_mut-2.result.now c.add_all.new.used) seen c.in_ok-add_all.ensures in
    let adds' = subst (λ (k : ℕ). AddsItems items lasts k n c.in_ok-self.field-0.items c.add_all.new.alive.items c.deref_mut-2.result.now c.add_all.new.used) was.seen adds in
    let adds'' = subst (λ (us : List ℕ). AddsItems items lasts (objects_before t cycle) n c.in_ok-self.field-0.items c.add_all.new.alive.items us c.add_all.new.used) c.deref_mut-2.ensures.value adds' in
    let rise = before-rise t cycle (cycle + 1) (omega arith) in
    let used-long : length c.add_all.new.used ≡ c.args.self.now.used.len = c.add_all.auto.used ∙ c.deref_mut-2.ensures.len in
    let used = written c.args.self.now.used.len c.add_all.new.used c.args.self.now.used.items used-long in
    let tallies-long : length c.tally_all.new.tallies ≡ c.args.self.now.tallies.len = c.tally_all.auto.tallies ∙ c.deref_mut.ensures.len in
    let tallies = written c.args.self.now.tallies.len c.tally_all.new.tallies c.args.self.now.tallies.items tallies-long in
    let vl = sym (vec-len c.args.self.now.tallies) ∙ was.room.0 in
    let vl' = sym (vec-len c.args.self.now.used) ∙ was.room.1 in
    let are = subst (λ (xs : List Alive). AreTallied cycle xs c.tally_all.new.tallies) c.deref.ensures.value c.tally_all.ensures in
    let k = cycle - 1 in
    let e : k + 1 ≡ cycle = omega arith in
    let uses = adds''.uses was.used rise (ascends t report items lasts n c.requires.known) in
    record {
      before = c.take_up.ensures.lives;
      after = c.take_up-2.ensures.lives;
      kept_is = λ life lt. subst (λ (ts : List Tally). kept_in (tally_at ts life) cycle ≡ kept (marked_by t) (objects_of items) cycle life) (sym tallies)
          (are.kept life (omega arith)
          ∙ subst (λ (j : ℕ). count (is_kept j life) c.args.self.now.alive.items ≡ kept (marked_by t) (objects_of items) j life) e
          (kept-counted t report items lasts k (objects_before t cycle) life c.args.self.now.alive.items c.requires.known (ap (λ (j : ℕ). objects_before t j) (sym e)) was.alive));
      freed_is = λ life lt. subst (λ (ts : List Tally). freed_in (tally_at ts life) cycle ≡ freed (marked_by t) (objects_of items) cycle life) (sym tallies)
          (are.freed life (omega arith)
          ∙ subst (λ (j : ℕ). count (is_freed j life) c.args.self.now.alive.items ≡ freed (marked_by t) (objects_of items) j life) e
          (freed-counted t report items lasts k (objects_before t cycle) life c.args.self.now.alive.items c.requires.known (ap (λ (j : ℕ). objects_before t j) (sym e)) was.alive));
      used_is = λ life lt. subst (λ (us : List ℕ). (used_at us life.number ≡ cycle) ↔ IsUsedAgain (objects_of items) cycle life) (sym used)
          (used-again t report items lasts cycle n life c.add_all.new.used c.requires.known some refl (omega arith) uses);
    }
