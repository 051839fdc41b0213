use Rattle.std.proofs.Common.{◌<◌, arith, refl, sym, ap, subst}
use Rattle.std.proofs.lemmas.Result.{err_from_is_err_and}
use Rattle.page_bitmap.specs.Counts.{one_if}
use Rattle.span_laws.specs.Views.{Seen}
use Rattle.span_set.specs.declared.hand.Hand.{Hand}
use Rattle.span_set.specs.declared.answers.PopBase.TheVariants.{Popped, Empty}
use Rattle.span_set.specs.Pops.{PopsUnswept}
use Rattle.span_set.specs.Sets.{unswept_of}
use Rattle.span_set.proofs.Numbers.{few}
use Rattle.central_lists.specs.Looks.{AnyLog}
use Rattle.central_lists.specs.Works.{HandSearches, nothing}
use Rattle.central_lists.proofs.Joining.{does-nothing}
use Rattle.central_lists.proofs.Trying.{class_before, dropped, gone, kept, none_left, popping, unpopped_before}
use Rattle.span_set.proofs.Tallies.{frees-both, frees-none, may-still}
use Rattle.central_lists.proofs.lists.try_one.Goals as goal

pub sweep_one-requires-clause-of_class : goal.sweep_one-requires-clause-of_class
sweep_one-requires-clause-of_class c = let a = c.args.hand.now in let k = c.args.class in let f = one_if c.args.full in let g = a.worker.view.generation in
    let e = subst (λ (w : Seen). PopsUnswept (unswept_of w.view.generation (record { class = k; full = c.args.full })) w c.pop_unswept.new.w (Popped c.in-Popped.page)) c.reserve_note.ensures.worker c.in-Popped.ensures in
    let small : f < 2 = (let l = few c.args.full in omega arith) in
    class_before g k f small c.in-Popped.page a c.pop_unswept.new.w (popping g k f small c.in-Popped.page a.worker c.pop_unswept.new.w e) refl c.in-Got.body c.acquire.new.w c.in-Got.ensures

pub sweep_one-requires-clause-unpopped : goal.sweep_one-requires-clause-unpopped
sweep_one-requires-clause-unpopped c = let a = c.args.hand.now in let k = c.args.class in let f = one_if c.args.full in let g = a.worker.view.generation in
    let e = subst (λ (w : Seen). PopsUnswept (unswept_of w.view.generation (record { class = k; full = c.args.full })) w c.pop_unswept.new.w (Popped c.in-Popped.page)) c.reserve_note.ensures.worker c.in-Popped.ensures in
    let small : f < 2 = (let l = few c.args.full in omega arith) in
    unpopped_before g k f small c.in-Popped.page a c.pop_unswept.new.w (popping g k f small c.in-Popped.page a.worker c.pop_unswept.new.w e) refl c.in-Got.body c.acquire.new.w c.in-Got.ensures c.requires.class

pub returns-in-Empty-clause-tries : goal.returns-in-Empty-clause-tries
returns-in-Empty-clause-tries c = let a = c.args.hand.now in let k = c.args.class in let f = one_if c.args.full in let g = a.worker.view.generation in
    let e = subst (λ (w : Seen). PopsUnswept (unswept_of w.view.generation (record { class = k; full = c.args.full })) w c.pop_unswept.new.w (Empty c.in-Empty.head c.in-Empty.tail)) c.reserve_note.ensures.worker c.in-Empty.ensures in
    none_left g k f a (record c.reserve_note.new.self { worker = c.pop_unswept.new.w }) c.in-Empty.head c.in-Empty.tail e c.reserve_note.ensures.notes

pub returns-in-Other-clause-tries : goal.returns-in-Other-clause-tries
returns-in-Other-clause-tries c = let a = c.args.hand.now in let k = c.args.class in let f = one_if c.args.full in let g = a.worker.view.generation in
    let e = subst (λ (w : Seen). PopsUnswept (unswept_of w.view.generation (record { class = k; full = c.args.full })) w c.pop_unswept.new.w (Popped c.in-Popped.page)) c.reserve_note.ensures.worker c.in-Popped.ensures in
    let small : f < 2 = (let l = few c.args.full in omega arith) in
    dropped g k f small c.in-Popped.page a c.pop_unswept.new.w (popping g k f small c.in-Popped.page a.worker c.pop_unswept.new.w e) refl c.in-Other.field-0
    (record c.reserve_note.new.self { worker = c.acquire.new.w }) c.in-Other.ensures.1 c.reserve_note.ensures.notes

pub returns-in-Some-clause-tries : goal.returns-in-Some-clause-tries
returns-in-Some-clause-tries c = let a = c.args.hand.now in let k = c.args.class in let f = one_if c.args.full in let g = a.worker.view.generation in
    let e = subst (λ (w : Seen). PopsUnswept (unswept_of w.view.generation (record { class = k; full = c.args.full })) w c.pop_unswept.new.w (Popped c.in-Popped.page)) c.reserve_note.ensures.worker c.in-Popped.ensures in
    let small : f < 2 = (let l = few c.args.full in omega arith) in
    let h : Hand = record c.reserve_note.new.self { worker = c.acquire.new.w } in
    kept g k f small c.in-Popped.page a c.pop_unswept.new.w (popping g k f small c.in-Popped.page a.worker c.pop_unswept.new.w e) refl h c.sweep_one.new.hand c.in-Got.body c.in-Some.body c.in-Got.ensures c.args.shop.now.marks.now
    c.in-Some.ensures.sweeps.1 c.reserve_note.ensures.notes c.in-Some.ensures.sweeps.0 c.requires.works.marks

pub returns-in-None-clause-tries : goal.returns-in-None-clause-tries
returns-in-None-clause-tries c = let a = c.args.hand.now in let k = c.args.class in let f = one_if c.args.full in let g = a.worker.view.generation in
    let e = subst (λ (w : Seen). PopsUnswept (unswept_of w.view.generation (record { class = k; full = c.args.full })) w c.pop_unswept.new.w (Popped c.in-Popped.page)) c.reserve_note.ensures.worker c.in-Popped.ensures in
    let small : f < 2 = (let l = few c.args.full in omega arith) in
    let h : Hand = record c.reserve_note.new.self { worker = c.acquire.new.w } in let n = c.in-None.ensures.sweeps in
    gone g k f small c.in-Popped.page a c.pop_unswept.new.w (popping g k f small c.in-Popped.page a.worker c.pop_unswept.new.w e) refl h n.1 c.in-Got.body n.0 c.in-Got.ensures c.args.shop.now.marks.now
    n.2 c.reserve_note.ensures.notes c.sweep_one.new.hand n.5 c.requires.unclaimed n.4 (ap (λ r. r.items) n.3)

pub returns-in_err-reserve_note-clause-tries : goal.returns-in_err-reserve_note-clause-tries
returns-in_err-reserve_note-clause-tries c = let a = c.args.hand.now in let g = a.worker.view.generation in
    let p = err_from_is_err_and c.from_residual.result c.from_residual.ensures.1 in
    rw p.1 (subst (λ (h : Hand). HandSearches g c.args.class 0 nothing nothing AnyLog a h) (sym c.in_err-reserve_note.ensures.err) (does-nothing g c.args.class a))

pub sweep_one-requires-clause-counts : goal.sweep_one-requires-clause-counts
sweep_one-requires-clause-counts c = let m = c.args.shop.now.marks.now in let a = c.args.hand.now in let h : Hand = record c.reserve_note.new.self { worker = c.acquire.new.w } in
    may-still m c.args.shop.now.ring.now a h c.requires.works.counts (frees-none m a h c.reserve_note.ensures.notes c.reserve_note.ensures.tally)

pub returns-in-Empty-clause-tally : goal.returns-in-Empty-clause-tally
returns-in-Empty-clause-tally c = frees-none c.args.shop.now.marks.now c.args.hand.now (record c.reserve_note.new.self { worker = c.pop_unswept.new.w }) c.reserve_note.ensures.notes c.reserve_note.ensures.tally

pub returns-in-Other-clause-tally : goal.returns-in-Other-clause-tally
returns-in-Other-clause-tally c = frees-none c.args.shop.now.marks.now c.args.hand.now (record c.reserve_note.new.self { worker = c.acquire.new.w }) c.reserve_note.ensures.notes c.reserve_note.ensures.tally

pub returns-in_err-reserve_note-clause-tally : goal.returns-in_err-reserve_note-clause-tally
returns-in_err-reserve_note-clause-tally c = frees-none c.args.shop.now.marks.now c.args.hand.now c.reserve_note.new.self c.reserve_note.ensures.notes c.reserve_note.ensures.tally

pub returns-in-Some-clause-tally : goal.returns-in-Some-clause-tally
returns-in-Some-clause-tally c = let m = c.args.shop.now.marks.now in let a = c.args.hand.now in let h : Hand = record c.reserve_note.new.self { worker = c.acquire.new.w } in
    frees-both m a h c.sweep_one.new.hand (frees-none m a h c.reserve_note.ensures.notes c.reserve_note.ensures.tally) c.sweep_one.ensures.tally

pub returns-in-None-clause-tally : goal.returns-in-None-clause-tally
returns-in-None-clause-tally c = let m = c.args.shop.now.marks.now in let a = c.args.hand.now in let h : Hand = record c.reserve_note.new.self { worker = c.acquire.new.w } in
    frees-both m a h c.sweep_one.new.hand (frees-none m a h c.reserve_note.ensures.notes c.reserve_note.ensures.tally) c.sweep_one.ensures.tally
