use Rattle.std.proofs.Common.{◌≡◌, ◌+◌, ◌<◌, ◌≤◌, List, [], length, get_or, drop, sym, ap, subst, ◌∙◌, arith}
use Rattle.std.specs.Prelude.{fold}
use Rattle.std.specs.List.{AllByRecursion, flat_map}
use Rattle.std.proofs.lemmas.List.{drop_all}
use Rattle.trace_reader.specs.declared.trace.Cycle.{Cycle}
use Rattle.trace_reader.specs.declared.trace.Event.{Event}
use Rattle.profile_cycle.specs.declared.buckets.Bucket.{Bucket}
use Rattle.profile_cycle.specs.Naming.{HasSize, named, pairs_of}
use Rattle.profile_cycle.proofs.Named.{cycle-next, names-cycle, sizes-split, few}
use Rattle.profile_cycle.proofs.buckets.Buckets.of_trace.Goals as goal

-- the events of some cycles
abbrev events_in : List Cycle → List Event
events_in cycles = flat_map (λ (c : Cycle). c.events) cycles

pub name_all-requires : goal.name_all-requires
name_all-requires c =
    let cycles : List Cycle = c.args.trace.now.cycles in
    let i = c.loop-cycle.cycle-index in
    let here : Cycle = c.cycle-item.result in
    let same : length c.as_slice-cycle-items.result.now ≡ length cycles = ap (λ (cs : List Cycle). length cs) c.as_slice-cycle-items.ensures in
    let low : i < length cycles = omega arith in
    let is : here ≡ get_or cycles i here = subst (λ (cs : List Cycle). here ≡ get_or cs i here) c.as_slice-cycle-items.ensures c.cycle-item.is in
    let next = cycle-next cycles i here low is in
    subst (λ (es : List Event). AllByRecursion HasSize es) (sym c.as_slice.ensures) (sizes-split here.events (events_in (drop (i + 1) cycles)) (subst (λ (es : List Event). AllByRecursion HasSize es) next c.loop-cycle.invariant.sizes)).0

pub loop-cycle-preserved : goal.loop-cycle-preserved
loop-cycle-preserved c =
    let cycles : List Cycle = c.args.trace.now.cycles in
    let i = c.loop-cycle.cycle-index in
    let here : Cycle = c.cycle-item.result in
    let rest : List Event = events_in (drop (i + 1) cycles) in
    let known : List Bucket = c.loop-cycle.known.keys in
    let same : length c.as_slice-cycle-items.result.now ≡ length cycles = ap (λ (cs : List Cycle). length cs) c.as_slice-cycle-items.ensures in
    let low : i < length cycles = omega arith in
    let is : here ≡ get_or cycles i here = subst (λ (cs : List Cycle). here ≡ get_or cs i here) c.as_slice-cycle-items.ensures c.cycle-item.is in
    let next = cycle-next cycles i here low is in
    let made : c.name_all.new.known.keys ≡ fold named known (pairs_of here.events) =
    subst (λ (es : List Event). c.name_all.new.known.keys ≡ fold named known (pairs_of es)) c.as_slice.ensures c.in_ok-name_all.ensures in
    record {
      keys = ap (λ (ks : List Bucket). fold named ks (pairs_of rest)) made ∙ names-cycle here.events rest known ∙ ap (λ (es : List Event). fold named known (pairs_of es)) (sym next) ∙ c.loop-cycle.invariant.keys;
      sizes = (sizes-split here.events rest (subst (λ (es : List Event). AllByRecursion HasSize es) next c.loop-cycle.invariant.sizes)).1;
    }

pub invariant_of-result : goal.invariant_of-result
invariant_of-result c =
    let cycles : List Cycle = c.args.trace.now.cycles in
    let known : List Bucket = c.loop-cycle.known.keys in
    let same : length c.as_slice-cycle-items.result.now ≡ length cycles = ap (λ (cs : List Cycle). length cs) c.as_slice-cycle-items.ensures in
    let over : length cycles ≤ c.loop-cycle.cycle-index = omega arith in
    let all : List Event = events_in cycles in
    let e : known ≡ fold named [] (pairs_of all) =
    sym (ap (λ (cs : List Cycle). fold named known (pairs_of (events_in cs))) (drop_all c.loop-cycle.cycle-index cycles over)) ∙ c.loop-cycle.invariant.keys in
    let len : length known ≡ length (fold named [] (pairs_of all)) = ap (λ (ks : List Bucket). length ks) e in
    let most = few all in
    let objects : length all ≤ 1000000 = c.requires.objects in
    let it : length known ≤ 1000000 = omega arith in
    it
