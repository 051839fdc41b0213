-- Workers that went out together are taken in one after another: each is as one that goes out and comes back alone.
use Rattle.std.proofs.Common.{◌≡◌, ℕ, ◌+◌, ◌-◌, ◌<◌, List, ◌∷◌, ◌++◌, set, length, refl, sym, ◌∙◌, ap, arith, subst, None}
use Rattle.atomic_table.specs.Seated.{TableId}
use Rattle.span_state.specs.MarkSet.{MarkSet}
use Rattle.worker_log.specs.declared.Entry.{Entry}
use Rattle.profile_cycle.specs.History.{RingId, Standing, joined, lent, split_off}
use Rattle.sweep_laws.specs.Lists.{erase}
use Rattle.span_laws.specs.Calls.{notes_of}
use Rattle.span_laws.specs.Handed.{handed, handing, taking_in, with_cache}
use Rattle.span_laws.specs.Views.{Seen, acts}
use Rattle.span_laws.specs.declared.view.Part.{Part}
use Rattle.span_set.specs.declared.hand.Hand.{Hand}
use Rattle.proc_cache.specs.Cache.{Cache}
use Rattle.heap_run.specs.Counts.{Counts, IsOut}
use Rattle.heap_run.specs.Out.{HasOut, IsTakenIn, MayJoin, at_home}
use Rattle.span_laws.specs.CacheAnswers.{IsSettled}
use Rattle.heap_run.specs.Parts.{goes_out, own_out, part_at}
use Rattle.heap_run.specs.Turns.{HasActed, IsCaching, TookTurn}
use Rattle.heap_run.proofs.Acted.{HandsOut, back-cached, back-caching, turn-back}
use Rattle.heap_run.proofs.Counting.{counts-as, counts-turn}
use Rattle.heap_run.proofs.Parts.{erase-front, part-out}
use Rattle.heap_run.proofs.Stacks.{all-less, rises-low}

-- ---- a worker that went out earlier

-- The driver has of worker i what it had at the start, and the same cycle.
pub record IsAlike (start old : Hand) (i : ℕ) : Type 0 where
  pub was : start.worker.number ≡ 69
  pub number : old.worker.number ≡ 69
  pub parts : length old.worker.view.parts ≡ 70
  pub low : i < 69
  pub generation : old.worker.view.generation ≡ start.worker.view.generation
  pub part : part_at old.worker i ≡ part_at start.worker i
  pub tally : record old.tally { view = split_off old.tally.view } ≡ record start.tally { view = split_off start.tally.view }

-- as it would go out now, and come back
abbrev out_now : ℕ → Hand → Hand → Hand
out_now i old begin = record { worker = goes_out begin.worker.caching i old.worker; notes = begin.notes; tally = record old.tally { view = split_off old.tally.view } }

abbrev run_now : ℕ → Hand → Hand → Hand
run_now i old end = record { worker = record (goes_out end.worker.caching i old.worker) { view = acts (handed 69 i old.worker.view) end.worker.view.own }; notes = end.notes; tally = end.tally }

own-now : (start old begin : Hand) (i : ℕ) → IsAlike start old i → IsOut i start begin → begin.worker.view.own ≡ (goes_out begin.worker.caching i old.worker).view.own
own-now start old begin i alike out =
    ap (λ (w : Seen). w.view.own) out.worker ∙ ap (own_out begin.worker.caching i) (part-out start.worker i alike.was ∙ sym alike.part ∙ sym (part-out old.worker i alike.number))

generation-now : (start old begin : Hand) (i : ℕ) → IsAlike start old i → IsOut i start begin → begin.worker.view.generation ≡ old.worker.view.generation
generation-now start old begin i alike out = ap (λ (w : Seen). w.view.generation) out.worker ∙ sym alike.generation

hands-now : (start old begin : Hand) (i : ℕ) → IsAlike start old i → IsOut i start begin → HandsOut i old (out_now i old begin)
hands-now start old begin i alike out = record { number = alike.number; parts = alike.parts; low = alike.low; out = refl; none = out.notes }

acted-now : (P : List Entry → Type 0) (start old begin end : Hand) (i : ℕ) → IsAlike start old i → IsOut i start begin → HasActed P begin end → HasActed P (out_now i old begin) (run_now i old end)
acted-now P start old begin end i alike out acted = record {
  said = acted.said;
  did = acted.did;
  log = acted.log ∙ ap (λ (h : Part). acted.said ++ h.log) (own-now start old begin i alike out);
  away = refl;
  table = refl;
  number = refl;
  caching = acted.caching;
  view = refl;
  idle = acted.idle;
  notes = acted.notes ∙ ap (λ (g : ℕ). begin.notes.items ++ notes_of g acted.said) (generation-now start old begin i alike out);
}

-- ---- taken in among others

acted-number : (P : List Entry → Type 0) (start begin end : Hand) (i : ℕ) → IsOut i start begin → HasActed P begin end → end.worker.number ≡ i
acted-number P start begin end i out acted = acted.number ∙ ap (λ (w : Seen). w.number) out.worker

-- the driver with all home is as one that takes the worker in alone
home-back : (start d e begin end : Hand) (i : ℕ) → end.worker.number ≡ i → IsTakenIn end d e → (at_home start e).worker ≡ taking_in (run_now i (at_home start d) end).worker (handing i (at_home start d).worker)
home-back start d e begin end i number taken =
    ap (λ (w : Seen). record w { away = start.worker.away; journal = None }) taken.worker
    ∙ ap (λ (k : ℕ). record d.worker { away = start.worker.away; journal = None; view = record d.worker.view { parts = set d.worker.view.parts k (with_cache None end.worker.view.own) } }) number
    ∙ ap (λ (l : List ℕ). record d.worker { away = l; journal = None; view = record d.worker.view { parts = set d.worker.view.parts i (with_cache None end.worker.view.own) } }) (sym (erase-front i start.worker.away))

pub home-turn : (P : List Entry → Type 0) (start d e begin end : Hand) (i : ℕ) → IsAlike start (at_home start d) i → IsOut i start begin → HasActed P begin end → IsTakenIn end d e → TookTurn i P (at_home start d) (at_home start e)
home-turn P start d e begin end i alike out acted taken =
    let old = at_home start d in
    turn-back P i old (out_now i old begin) (run_now i old end) (at_home start e) (hands-now start old begin i alike out) (acted-now P start old begin end i alike out acted)
    (home-back start d e begin end i (acted-number P start begin end i out acted) taken) taken.notes

pub home-caching : (P : List Entry → Type 0) (start d e begin end : Hand) (i : ℕ) (c : Cache) → IsAlike start (at_home start d) i → IsOut i start begin → HasActed P begin end → IsTakenIn end d e
    → IsCaching begin.worker.view.generation end.worker.view.own c → IsCaching start.worker.view.generation (part_at (at_home start e).worker i) c
home-caching P start d e begin end i c alike out acted taken caching =
    let old = at_home start d in
    let now : IsCaching old.worker.view.generation (part_at (at_home start e).worker i) c =
    back-caching P i old (out_now i old begin) (run_now i old end) (at_home start e) c (hands-now start old begin i alike out) (acted-now P start old begin end i alike out acted)
    (home-back start d e begin end i (acted-number P start begin end i out acted) taken)
    (subst (λ (g : ℕ). IsCaching g end.worker.view.own c) (generation-now start old begin i alike out) caching) in
    subst (λ (g : ℕ). IsCaching g (part_at (at_home start e).worker i) c) alike.generation now

pub home-cached : (P : List Entry → Type 0) (start d e begin end : Hand) (i : ℕ) → IsAlike start (at_home start d) i → IsOut i start begin → HasActed P begin end → IsTakenIn end d e
    → end.worker.view.own.cached ≡ begin.worker.view.own.cached → (part_at (at_home start e).worker i).cached ≡ (part_at (at_home start d).worker i).cached
home-cached P start d e begin end i alike out acted taken same =
    let old = at_home start d in
    back-cached P i old (out_now i old begin) (run_now i old end) (at_home start e) (hands-now start old begin i alike out) (acted-now P start old begin end i alike out acted)
    (home-back start d e begin end i (acted-number P start begin end i out acted) taken)
    (same ∙ ap (λ (h : Part). h.cached) (own-now start old begin i alike out))

pub home-counts : (P : List Entry → Type 0) (m : MarkSet) (f : ℕ → ℕ) (start d e begin end : Hand) (i : ℕ) → IsAlike start (at_home start d) i → IsOut i start begin → HasActed P begin end → IsTakenIn end d e
    → Counts m f begin end → Counts m f (at_home start d) (at_home start e)
home-counts P m f start d e begin end i alike out acted taken counts =
    let old = at_home start d in
    let away : Hand = record { worker = old.worker; notes = old.notes; tally = record old.tally { view = lent old.tally.view } } in
    let gone : IsOut i old (out_now i old begin) = record { worker = refl; notes = out.notes; tally = refl } in
    let counted : Counts m f (out_now i old begin) (run_now i old end) = counts-as m f begin end (out_now i old begin) (run_now i old end) counts refl (alike.tally ∙ sym out.tally) refl refl in
    let one : start.tally.view.out ≡ start.tally.view.out + 1 - 1 = omega arith in
    let joins : (at_home start e).tally ≡ record away.tally { view = joined away.tally.view end.tally.view } =
    ap (λ (s : Standing). record s { view = record s.view { out = start.tally.view.out } }) taken.tally
    ∙ ap (λ (n : ℕ). record d.tally { view = record (joined d.tally.view end.tally.view) { out = n } }) one in
    counts-turn m f i old away (out_now i old begin) (run_now i old end) (at_home start e) gone refl refl counted taken.notes joins

-- ---- one less is out

pub out-less : (P : List Entry → Type 0) (start d e begin end : Hand) (i : ℕ) (is : List ℕ) → HasOut start (i ∷ is) d → IsAlike start (at_home start d) i → IsOut i start begin → HasActed P begin end → IsTakenIn end d e → HasOut start is e
out-less P start d e begin end i is outs alike out acted taken =
    let number = acted-number P start begin end i out acted in
    let turn = home-turn P start d e begin end i alike out acted taken in
    record {
      rises = rises-low 0 (i + 1) is (omega arith) outs.rises.1;
      away = ap (λ (w : Seen). w.away) taken.worker ∙ ap (λ (k : ℕ). erase k d.worker.away) number ∙ ap (λ (l : List ℕ). erase i l) outs.away ∙ erase-front i (is ++ start.worker.away);
      out = (let t = ap (λ (s : Standing). s.view.out) taken.tally in let o = outs.out in omega arith);
      parts = all-less (λ (j : ℕ). part_at d.worker j ≡ part_at start.worker j) (λ (j : ℕ). part_at e.worker j ≡ part_at start.worker j) i (i + 1) is (omega arith) outs.rises.1 outs.parts.1
          (λ j other was. turn.others j other ∙ was);
    }

-- a worker that is out and has no block out may be taken in
pub may-join : (P : List Entry → Type 0) (table : TableId) (ring : RingId) (m : MarkSet) (f : ℕ → ℕ) (start d begin end : Hand) (i : ℕ) → start.worker.table ≡ table → start.tally.ring ≡ ring → d.tally.view.cycle ≡ start.tally.view.cycle
    → IsOut i start begin → HasActed P begin end → Counts m f begin end → IsSettled end.worker → MayJoin table ring d end
may-join P table ring m f start d begin end i of_table of_ring cycle out acted counts settled = record {
  out = acted.table ∙ ap (λ (w : Seen). w.table) out.worker ∙ of_table;
  settled = settled;
  of_ring = ap (λ (s : Standing). s.ring) counts.tally ∙ ap (λ (s : Standing). s.ring) out.tally ∙ of_ring;
  split = ap (λ (s : Standing). s.view.drives) counts.tally ∙ ap (λ (s : Standing). s.view.drives) out.tally;
  cycle = ap (λ (s : Standing). s.view.cycle) counts.tally ∙ ap (λ (s : Standing). s.view.cycle) out.tally ∙ sym cycle;
}
