use Rattle.std.proofs.Common.{◌≡◌, ℕ, ◌<◌, All, List, length, sym, ap, subst, arith, vec_len}
use Rattle.std.proofs.lemmas.List.{with_items_is}
use Rattle.span_set.specs.declared.hand.Hand.{Hand}
use Rattle.proc_cache.specs.Cache.{Cache}
use Rattle.heap_run.specs.declared.cycle.LentLists.{LentLists}
use Rattle.heap_run.specs.declared.lanes.Lane.{Lane}
use Rattle.heap_run.specs.declared.going_out.Start.{Start}
use Rattle.heap_run.specs.Lanes.{IsReady}
use Rattle.heap_run.specs.Out.{AreSent, AreStillOut}
use Rattle.heap_run.specs.Counts.{Counts, HaveSampled}
use Rattle.heap_run.specs.Gains.{gains}
use Rattle.heap_run.specs.Riding.{HaveRidden}
use Rattle.heap_run.specs.Turns.{HaveAnswered, IsDriving}
use Rattle.sample_laws.specs.Counted.{all_counts}
use Rattle.heap_run.proofs.Sending.{all-ready, are-asked, may-start, some-sent}
use Rattle.heap_run.proofs.Beside.{end-answered, end-counts, end-driving, end-riders, end-sampled, still-all}
use Rattle.heap_run.proofs.cycle.run_beside.Goals as goal

pub run_all-requires-clause-some : goal.run_all-requires-clause-some
run_all-requires-clause-some g c κs within =
    let s : Start = record { driver = c.of.result; procs = c.of-2.result; given = c.of-3.result } in
    let olds : List Cache = c.args.procs.now.items in
    let is_procs : s.procs.value.items ≡ olds = ap (λ (v : _). v.items) c.of-2.ensures in
    let starts = may-start c.args.shop.now.shared.now c.args.shop.now.ring.now c.args.shop.now.marks.now s c.args.driver.now olds c.args.given.now c.of.ensures is_procs c.of-3.ensures c.requires.works c.requires.parts (let f = c.requires.few in omega (arith, c.args.procs.now.ok.0))
    (let l = c.requires.lists.0 in omega (arith, c.args.procs.now.ok.0, c.args.given.now.answers.ok.0)) (let l = c.requires.lists.1 in omega (arith, c.args.procs.now.ok.0, c.args.given.now.sampled.ok.0)) c.requires.driving c.requires.collecting c.requires.drives c.requires.quiet in
    let some = some-sent s c.args.queues.now.events c.args.background 0 c.in_ok-out.out.lanes.items c.in_ok-out.out.resting.items c.send_all.new.procs.items c.send_all.new.given c.send_all.new.driver c.in_ok-out.ensures.sent in
    subst (λ (l : List Lane). 0 < length l) (sym c.as_mut_slice.ensures.value) some

pub run_all-requires-clause-ready : goal.run_all-requires-clause-ready
run_all-requires-clause-ready g c κs within =
    let s : Start = record { driver = c.of.result; procs = c.of-2.result; given = c.of-3.result } in
    let olds : List Cache = c.args.procs.now.items in
    let is_procs : s.procs.value.items ≡ olds = ap (λ (v : _). v.items) c.of-2.ensures in
    let starts = may-start c.args.shop.now.shared.now c.args.shop.now.ring.now c.args.shop.now.marks.now s c.args.driver.now olds c.args.given.now c.of.ensures is_procs c.of-3.ensures c.requires.works c.requires.parts (let f = c.requires.few in omega (arith, c.args.procs.now.ok.0))
    (let l = c.requires.lists.0 in omega (arith, c.args.procs.now.ok.0, c.args.given.now.answers.ok.0)) (let l = c.requires.lists.1 in omega (arith, c.args.procs.now.ok.0, c.args.given.now.sampled.ok.0)) c.requires.driving c.requires.collecting c.requires.drives c.requires.quiet in
    let asked = are-asked c.args.shop.now.ring.now.buckets c.args.queues.now.events c.args.queues.now.buckets s olds is_procs (let n = c.requires.count in omega (arith, c.args.procs.now.ok.0)) (let n = c.requires.buckets in omega (arith, c.args.procs.now.ok.0)) c.requires.numbered c.requires.sizes in
    let ready = all-ready c.args.shop.now.shared.now c.args.shop.now.ring.now c.args.shop.now.marks.now c.args.queues.now.events c.args.queues.now.buckets s c.args.background 0 c.in_ok-out.out.lanes.items c.in_ok-out.out.resting.items c.send_all.new.procs.items c.send_all.new.given c.send_all.new.driver
    starts asked c.in_ok-out.ensures.sent in
    subst (λ (l : List Lane). All (IsReady c.args.shop.now.shared.now c.args.shop.now.ring.now c.args.shop.now.marks.now c.args.queues.now.events c.args.queues.now.buckets) l) (sym c.as_mut_slice.ensures.value) ready

pub take_processors-requires-clause-out : goal.take_processors-requires-clause-out
take_processors-requires-clause-out g c =
    let s : Start = record { driver = c.of.result; procs = c.of-2.result; given = c.of-3.result } in
    let olds : List Cache = c.args.procs.now.items in
    let is_procs : s.procs.value.items ≡ olds = ap (λ (v : _). v.items) c.of-2.ensures in
    let starts = may-start c.args.shop.now.shared.now c.args.shop.now.ring.now c.args.shop.now.marks.now s c.args.driver.now olds c.args.given.now c.of.ensures is_procs c.of-3.ensures c.requires.works c.requires.parts (let f = c.requires.few in omega (arith, c.args.procs.now.ok.0))
    (let l = c.requires.lists.0 in omega (arith, c.args.procs.now.ok.0, c.args.given.now.answers.ok.0)) (let l = c.requires.lists.1 in omega (arith, c.args.procs.now.ok.0, c.args.given.now.sampled.ok.0)) c.requires.driving c.requires.collecting c.requires.drives c.requires.quiet in
    let sent : AreSent s c.args.queues.now.events c.args.background 0 c.as_mut_slice.result.now c.in_ok-out.out.resting.items c.send_all.new.procs.items c.send_all.new.given c.send_all.new.driver =
    subst (λ (l : List Lane). AreSent s c.args.queues.now.events c.args.background 0 l c.in_ok-out.out.resting.items c.send_all.new.procs.items c.send_all.new.given c.send_all.new.driver) (sym c.as_mut_slice.ensures.value) c.in_ok-out.ensures.sent in
    let long : length c.run_all.new.lanes ≡ c.in_ok-out.out.lanes.len = (let a = c.run_all.auto.lanes in let b = ap (λ (l : List Lane). length l) c.as_mut_slice.ensures.value in omega (arith, c.in_ok-out.out.lanes.ok.0)) in
    subst (λ (l : List Lane). AreStillOut c.args.queues.now.riding s c.args.shop.now.marks.now c.args.queues.now.events c.args.queues.now.buckets c.args.background 0 l c.in_ok-out.out.resting.items c.send_all.new.procs.items c.send_all.new.given c.send_all.new.driver) (sym (with_items_is c.in_ok-out.out.lanes c.run_all.new.lanes long))
    (still-all c.args.queues.now.riding c.args.shop.now.shared.now c.args.shop.now.ring.now c.args.shop.now.marks.now s c.args.queues.now.events c.args.queues.now.buckets c.args.background c.as_mut_slice.result.now c.run_all.new.lanes c.in_ok-out.out.resting.items c.send_all.new.procs.items c.send_all.new.given c.send_all.new.driver
    starts c.requires.background sent c.run_all.auto.lanes c.run_all.ensures.ran)

pub returns-clause-driving : goal.returns-clause-driving
returns-clause-driving g c =
    let s : Start = record { driver = c.of.result; procs = c.of-2.result; given = c.of-3.result } in
    let olds : List Cache = c.args.procs.now.items in
    let is_procs : s.procs.value.items ≡ olds = ap (λ (v : _). v.items) c.of-2.ensures in
    let starts = may-start c.args.shop.now.shared.now c.args.shop.now.ring.now c.args.shop.now.marks.now s c.args.driver.now olds c.args.given.now c.of.ensures is_procs c.of-3.ensures c.requires.works c.requires.parts (let f = c.requires.few in omega (arith, c.args.procs.now.ok.0))
    (let l = c.requires.lists.0 in omega (arith, c.args.procs.now.ok.0, c.args.given.now.answers.ok.0)) (let l = c.requires.lists.1 in omega (arith, c.args.procs.now.ok.0, c.args.given.now.sampled.ok.0)) c.requires.driving c.requires.collecting c.requires.drives c.requires.quiet in
    subst (λ (d : Hand). IsDriving d.worker c.take_processors.new.procs.items c.take_helpers.new.driver) c.of.ensures
    (end-driving c.args.queues.now.riding c.args.shop.now.shared.now c.args.shop.now.ring.now c.args.shop.now.marks.now s c.args.queues.now.events c.args.queues.now.buckets c.take_processors.new.procs.items c.take_processors.new.given c.take_helpers.new.driver c.in_ok-take_helpers.ensures.taken c.in_ok-take_helpers.ensures.out)

pub returns-clause-answered : goal.returns-clause-answered
returns-clause-answered g c =
    let s : Start = record { driver = c.of.result; procs = c.of-2.result; given = c.of-3.result } in
    let olds : List Cache = c.args.procs.now.items in
    let is_procs : s.procs.value.items ≡ olds = ap (λ (v : _). v.items) c.of-2.ensures in
    let starts = may-start c.args.shop.now.shared.now c.args.shop.now.ring.now c.args.shop.now.marks.now s c.args.driver.now olds c.args.given.now c.of.ensures is_procs c.of-3.ensures c.requires.works c.requires.parts (let f = c.requires.few in omega (arith, c.args.procs.now.ok.0))
    (let l = c.requires.lists.0 in omega (arith, c.args.procs.now.ok.0, c.args.given.now.answers.ok.0)) (let l = c.requires.lists.1 in omega (arith, c.args.procs.now.ok.0, c.args.given.now.sampled.ok.0)) c.requires.driving c.requires.collecting c.requires.drives c.requires.quiet in
    let count : length c.args.queues.now.events ≡ length s.procs.value.items = (let n = c.requires.count in let p = ap (λ (l : List Cache). length l) is_procs in omega (arith, c.args.procs.now.ok.0)) in
    subst (λ (x : LentLists). HaveAnswered c.args.queues.now.riding c.args.queues.now.events (gains x.answers.items c.take_processors.new.given.answers.items) c.take_helpers.new.driver.worker) c.of-3.ensures
    (end-answered c.args.queues.now.riding s c.args.shop.now.marks.now c.args.queues.now.events c.args.queues.now.buckets c.take_processors.new.procs.items c.take_processors.new.given c.take_helpers.new.driver count starts.answers c.in_ok-take_helpers.ensures.taken)

pub returns-clause-riders : goal.returns-clause-riders
returns-clause-riders g c =
    let s : Start = record { driver = c.of.result; procs = c.of-2.result; given = c.of-3.result } in
    let olds : List Cache = c.args.procs.now.items in
    let is_procs : s.procs.value.items ≡ olds = ap (λ (v : _). v.items) c.of-2.ensures in
    let starts = may-start c.args.shop.now.shared.now c.args.shop.now.ring.now c.args.shop.now.marks.now s c.args.driver.now olds c.args.given.now c.of.ensures is_procs c.of-3.ensures c.requires.works c.requires.parts (let f = c.requires.few in omega (arith, c.args.procs.now.ok.0))
    (let l = c.requires.lists.0 in omega (arith, c.args.procs.now.ok.0, c.args.given.now.answers.ok.0)) (let l = c.requires.lists.1 in omega (arith, c.args.procs.now.ok.0, c.args.given.now.sampled.ok.0)) c.requires.driving c.requires.collecting c.requires.drives c.requires.quiet in
    let count : length c.args.queues.now.events ≡ length s.procs.value.items = (let n = c.requires.count in let p = ap (λ (l : List Cache). length l) is_procs in omega (arith, c.args.procs.now.ok.0)) in
    subst (λ (x : LentLists). HaveRidden c.args.queues.now.riding c.args.queues.now.events (gains x.answers.items c.take_processors.new.given.answers.items)) c.of-3.ensures
    (end-riders c.args.queues.now.riding s c.args.shop.now.marks.now c.args.queues.now.events c.args.queues.now.buckets c.take_processors.new.procs.items c.take_processors.new.given c.take_helpers.new.driver count starts.answers c.in_ok-take_helpers.ensures.taken)

pub returns-clause-sampled : goal.returns-clause-sampled
returns-clause-sampled g c =
    let s : Start = record { driver = c.of.result; procs = c.of-2.result; given = c.of-3.result } in
    let olds : List Cache = c.args.procs.now.items in
    let is_procs : s.procs.value.items ≡ olds = ap (λ (v : _). v.items) c.of-2.ensures in
    let starts = may-start c.args.shop.now.shared.now c.args.shop.now.ring.now c.args.shop.now.marks.now s c.args.driver.now olds c.args.given.now c.of.ensures is_procs c.of-3.ensures c.requires.works c.requires.parts (let f = c.requires.few in omega (arith, c.args.procs.now.ok.0))
    (let l = c.requires.lists.0 in omega (arith, c.args.procs.now.ok.0, c.args.given.now.answers.ok.0)) (let l = c.requires.lists.1 in omega (arith, c.args.procs.now.ok.0, c.args.given.now.sampled.ok.0)) c.requires.driving c.requires.collecting c.requires.drives c.requires.quiet in
    subst (λ (x : LentLists). HaveSampled c.args.queues.now.riding c.args.queues.now.events (gains x.answers.items c.take_processors.new.given.answers.items) (gains x.sampled.items c.take_processors.new.given.sampled.items) olds c.take_processors.new.procs.items) c.of-3.ensures
    (subst (λ (l : List Cache). HaveSampled c.args.queues.now.riding c.args.queues.now.events (gains s.given.value.answers.items c.take_processors.new.given.answers.items) (gains s.given.value.sampled.items c.take_processors.new.given.sampled.items) l c.take_processors.new.procs.items) is_procs
    (end-sampled c.args.queues.now.riding s c.args.shop.now.marks.now c.args.queues.now.events c.args.queues.now.buckets c.take_processors.new.procs.items c.take_processors.new.given c.take_helpers.new.driver starts.answers starts.sampled c.in_ok-take_helpers.ensures.taken))

pub returns-clause-counts : goal.returns-clause-counts
returns-clause-counts g c =
    let s : Start = record { driver = c.of.result; procs = c.of-2.result; given = c.of-3.result } in
    let olds : List Cache = c.args.procs.now.items in
    let is_procs : s.procs.value.items ≡ olds = ap (λ (v : _). v.items) c.of-2.ensures in
    let starts = may-start c.args.shop.now.shared.now c.args.shop.now.ring.now c.args.shop.now.marks.now s c.args.driver.now olds c.args.given.now c.of.ensures is_procs c.of-3.ensures c.requires.works c.requires.parts (let f = c.requires.few in omega (arith, c.args.procs.now.ok.0))
    (let l = c.requires.lists.0 in omega (arith, c.args.procs.now.ok.0, c.args.given.now.answers.ok.0)) (let l = c.requires.lists.1 in omega (arith, c.args.procs.now.ok.0, c.args.given.now.sampled.ok.0)) c.requires.driving c.requires.collecting c.requires.drives c.requires.quiet in
    let n : length s.procs.value.items ≡ vec_len c.args.procs.now = (let p = ap (λ (l : List Cache). length l) is_procs in omega (arith, c.args.procs.now.ok.0)) in
    let m = c.args.shop.now.marks.now in
    let ended = end-counts c.args.queues.now.riding s m c.args.queues.now.events c.args.queues.now.buckets c.take_processors.new.procs.items c.take_processors.new.given c.take_helpers.new.driver starts.sampled c.in_ok-take_helpers.ensures.taken c.in_ok-take_helpers.ensures.out in
    subst (λ (d : Hand). Counts m (all_counts (vec_len c.args.procs.now) (gains c.args.given.now.sampled.items c.take_processors.new.given.sampled.items) c.args.queues.now.buckets) d c.take_helpers.new.driver) c.of.ensures
    (subst (λ (x : LentLists). Counts m (all_counts (vec_len c.args.procs.now) (gains x.sampled.items c.take_processors.new.given.sampled.items) c.args.queues.now.buckets) s.driver.value c.take_helpers.new.driver) c.of-3.ensures
    (subst (λ (k : ℕ). Counts m (all_counts k (gains s.given.value.sampled.items c.take_processors.new.given.sampled.items) c.args.queues.now.buckets) s.driver.value c.take_helpers.new.driver) n ended))
