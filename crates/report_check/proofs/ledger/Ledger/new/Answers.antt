use Rattle.std.proofs.Common.{◌≡◌, ℕ, ◌+◌, List, length, replicate, refl, sym, ◌∙◌, ap, subst, arith}
use Rattle.std.proofs.lemmas.List.{length-replicate}
use Rattle.cycle_history.specs.Before.{objects_before}
use Rattle.trace_reader.specs.declared.trace.Cycle.{Cycle}
use Rattle.page_bitmap.specs.declared.line.Line.{Line}
use Rattle.report_check.specs.declared.ledger.Alive.{Alive}
use Rattle.report_check.specs.Ledgers.{AddsItems, AreUsed}
use Rattle.report_check.proofs.Lasting.{some-cycle}
use Rattle.report_check.proofs.Ledgers.{alive-first, ascends, items-inside, next-first, used-none, written}
use Rattle.report_check.proofs.ledger.Ledger.new.Goals as goal

pub add_all-requires-clause-last : goal.add_all-requires-clause-last
add_all-requires-clause-last c =
    let t = c.args.objects.now.trace.now in
    let cycle = some-cycle t c.requires.known.limited in
    let long = ap (λ (cs : List Cycle). length cs) c.as_slice.ensures in
    let first : 0 + c.len-seen.result ≡ objects_before t (0 + 1) = next-first t c.as_slice.result.now 0 0 c.len-seen.result c.index-as_slice-0.result c.as_slice.ensures (omega arith) refl c.len-seen.ensures in
    let room = items-inside t c.args.objects.now.report.now c.args.objects.now.items.now c.args.objects.now.lasts.now 1 c.requires.known in
    omega arith

pub returns : goal.returns
returns c =
    let t = c.args.objects.now.trace.now in
    let report = c.args.objects.now.report.now in
    let items = c.args.objects.now.items.now in
    let lasts = c.args.objects.now.lasts.now in
    let cycle = some-cycle t c.requires.known.limited in
    let long = ap (λ (cs : List Cycle). length cs) c.as_slice.ensures in
    let first : 0 + c.len-seen.result ≡ objects_before t (0 + 1) = next-first t c.as_slice.result.now 0 0 c.len-seen.result c.index-as_slice-0.result c.as_slice.ensures (omega arith) refl c.len-seen.ensures in
    let seen : c.len-seen.result ≡ objects_before t 1 = omega arith in
    let adds = subst (λ (k : ℕ). AddsItems items lasts 0 k c.new-alive.result.items c.add_all.new.alive.items c.deref_mut.result.now c.add_all.new.used) seen c.in_ok-add_all.ensures in
    let adds' = subst (λ (xs : List Alive). AddsItems items lasts 0 (objects_before t 1) xs c.add_all.new.alive.items c.deref_mut.result.now c.add_all.new.used) c.new-alive.ensures.items adds in
    let zeros : c.in_ok-used.used.items ≡ replicate (length c.journal-lives.result.now) 0 = c.in_ok-used.ensures.items_if_clones_equal (λ y e. e) in
    let used-long : length c.add_all.new.used ≡ c.in_ok-used.used.len = c.add_all.auto.used ∙ c.deref_mut.ensures.len in
    let used = written c.in_ok-used.used.len c.add_all.new.used c.in_ok-used.used.items used-long in
    let start = used-none items (length c.journal-lives.result.now) c.deref_mut.result.now (c.deref_mut.ensures.value ∙ zeros) in
    let lives = ap (λ (ls : List Line). length ls) c.journal-lives.ensures in
    record {
      before = c.in_ok-new.ensures report 0;
      after = c.in_ok-new-2.ensures report 0;
      seen = seen;
      alive = alive-first t report items lasts (objects_before t 1) c.add_all.new.alive.items c.deref_mut.result.now c.add_all.new.used c.requires.known refl adds';
      tallies = λ life. (let b = c.in_ok-no_tallies.ensures.before 1 (omega arith) life in omega arith);
      used = subst (λ (us : List ℕ). AreUsed items (objects_before t 1) us) (sym used) (adds'.uses start (omega arith) (ascends t report items lasts (objects_before t 1) c.requires.known));
      room = (c.in_ok-no_tallies.ensures.length ∙ lives, ap (λ (us : List ℕ). length us) used ∙ (c.add_all.auto.used ∙ (ap (λ (us : List ℕ). length us) (c.deref_mut.ensures.value ∙ zeros) ∙ (length-replicate (length c.journal-lives.result.now) 0 ∙ lives))));
    }
