-- A test of whether a sound report is used.
use Rattle.std.proofs.Common.{◌≡◌, ℕ, ◌+◌, ◌<◌, Bool, true, false, not, leb, eqb, List, sym, ◌∙◌, ap, subst, arith, Decides}
use Rattle.std.specs.List.{AllZip}
use Rattle.std.proofs.lemmas.Bool.Decides.{Decides-like, Decides-eqb, Decides-not}
use Rattle.page_bitmap.specs.declared.line.Line.{Line}
use Rattle.page_alloc.specs.Lists.{In}
use Rattle.page_alloc.specs.Owners.{backed}
use Rattle.page_alloc.specs.Lives.{Life, all_lives}
use Rattle.page_alloc.specs.FreeRuns.{IsLoose}
use Rattle.page_alloc.specs.Journal.{at_end}
use Rattle.trace_reader.specs.declared.trace.Trace.{Trace}
use Rattle.cycle_history.specs.declared.Answer.{Answer}
use Rattle.cycle_history.specs.declared.Report.{Report}
use Rattle.cycle_history.specs.Requests.{requests_of, marked_by, last_cycle, region_of}
use Rattle.cycle_history.specs.Objects.{Object, is_placed}
use Rattle.cycle_history.specs.Sound.{past_in, IsSound, IsUsed, IsWanted, AllWanted, IsScavenged, IsSoundAndUsed}
use Rattle.cycle_history.specs.Broken.{MeetsUpTo}
use Rattle.cycle_history.proofs.Meets.{meets-sound}
use Rattle.sound_report_tests.proofs.Tests.{Decides-then, Decides-else, all_in, any_in, all_below, Decides-all, Decides-any, Decides-below}
use Rattle.sound_report_tests.proofs.Journals.{Decides-leb, is_loose, Decides-loose}
use Rattle.sound_report_tests.proofs.Alike.{IsSame, seated_objects, seated-same, from_left}
use Rattle.sound_report_tests.proofs.Decided.{meets, objects_in, Decides-meets_up_to, meets-seated}

abbrev pub wants : Life → Object → Bool
wants life o = elim (eqb o.index 0) [ true ↦ elim (eqb o.life life.number) [ true ↦ elim (eqb o.cycle life.cycle) [ true ↦ is_placed o.answer | false ↦ false ] | false ↦ false ] | false ↦ false ]

abbrev Wants : Life → Object → Type 0
Wants life o = (o.index ≡ 0) × ((o.life ≡ life.number) × ((o.cycle ≡ life.cycle) × (is_placed o.answer ≡ true)))

Decides-wants : (life : Life) (o : Object) → Decides (wants life o) (Wants life o)
Decides-wants life o =
    Decides-then (eqb o.index 0) (elim (eqb o.life life.number) [ true ↦ elim (eqb o.cycle life.cycle) [ true ↦ is_placed o.answer | false ↦ false ] | false ↦ false ]) (Decides-eqb o.index 0)
    (Decides-then (eqb o.life life.number) (elim (eqb o.cycle life.cycle) [ true ↦ is_placed o.answer | false ↦ false ]) (Decides-eqb o.life life.number)
    (Decides-then (eqb o.cycle life.cycle) (is_placed o.answer) (Decides-eqb o.cycle life.cycle) (λ h. h, λ h. h)))

abbrev pub are_wanted : List Line → List Object → Bool
are_wanted past objects = all_in (λ life. any_in (wants life) objects) (all_lives past)

Decides-wanted : (past : List Line) (objects : List Object) → Decides (are_wanted past objects) (AllWanted past objects)
Decides-wanted past objects =
    Decides-all (λ life. any_in (wants life) objects) (IsWanted objects) (all_lives past) (λ life i.
    Decides-like (any_in (wants life) objects)
    (λ (h : (o : Object) × In o objects × Wants life o). (h.0, h.1, h.2.1.1.1, h.2.1.0, h.2.0, h.2.1.1.0))
    (λ h. (h.0, h.1, (h.4, (h.3, (h.5, h.2)))))
    (Decides-any (wants life) (Wants life) objects (λ o j. Decides-wants life o)))

abbrev pub is_scavenged : ℕ → ℕ → List Line → Bool
is_scavenged region goal past = elim (leb (backed region past) goal) [ true ↦ true | false ↦ all_below (λ p. not (is_loose past p)) region ]

Decides-scavenged : (region goal : ℕ) (past : List Line) → Decides (is_scavenged region goal past) (IsScavenged region goal past)
Decides-scavenged region goal past =
    Decides-else (leb (backed region past) goal) (all_below (λ p. not (is_loose past p)) region) (Decides-leb (backed region past) goal)
    (Decides-below (λ p. not (is_loose past p)) (λ p. ¬ IsLoose past p) (λ p. Decides-not (is_loose past p) (Decides-loose past p)) region)

abbrev pub is_used : Trace → Report → List Object → Bool
is_used t report objects = elim (are_wanted (past_in report) objects) [ true ↦ all_below (λ c. is_scavenged (region_of t) t.header.goal (at_end c (past_in report))) (last_cycle t + 1) | false ↦ false ]

Decides-used : (t : Trace) (report : Report) (objects : List Object) → Decides (is_used t report objects) (IsUsed t report objects)
Decides-used t report objects =
    Decides-like (is_used t report objects)
    (λ (h : AllWanted (past_in report) objects × ((c : ℕ) → c < last_cycle t + 1 → IsScavenged (region_of t) t.header.goal (at_end c (past_in report)))).
    record { wanted = h.0; scavenged = λ c le. h.1 c (omega arith) })
    (λ h. (h.wanted, λ c lt. h.scavenged c (omega arith)))
    (Decides-then (are_wanted (past_in report) objects) (all_below (λ c. is_scavenged (region_of t) t.header.goal (at_end c (past_in report))) (last_cycle t + 1))
    (Decides-wanted (past_in report) objects)
    (Decides-below (λ c. is_scavenged (region_of t) t.header.goal (at_end c (past_in report))) (λ c. IsScavenged (region_of t) t.header.goal (at_end c (past_in report)))
    (λ c. Decides-scavenged (region_of t) t.header.goal (at_end c (past_in report))) (last_cycle t + 1)))

wanted-alike : (past : List Line) (os cs : List Object) → AllZip IsSame os cs → AllWanted past os → AllWanted past cs
wanted-alike past os cs all wanted life i =
    let w = wanted life i in
    let c = from_left IsSame os cs all w.0 w.1 in
    let like = c.2.like in
    (c.0, c.1, sym (ap is_placed like.answer) ∙ w.2, sym (c.2.life w.2) ∙ w.3, sym (c.2.index w.2) ∙ w.4, sym like.cycle ∙ w.5)

-- a sound report meets all rules
pub sound-meets : (t : Trace) (report : Report) (objects : List Object) → IsSound t report objects → MeetsUpTo 9 t report objects
sound-meets t report objects s = record {
  answers = λ le. s.answers;
  journal = λ le. s.journal;
  misses = λ le. s.misses;
  places = λ le. s.places;
  apart = λ le. s.apart;
  filling = λ le. s.filling;
  sweeps = λ le. s.sweeps;
  totals = λ le. s.totals;
  profile = λ le. s.profile;
}

abbrev pub is_sound_and_used : Trace → Report → Bool
is_sound_and_used t report = elim (meets 9 t report) [ true ↦ is_used t report (objects_in t report) | false ↦ false ]

pub Decides-sound_and_used : (t : Trace) (report : Report) → Decides (is_sound_and_used t report) (IsSoundAndUsed t report)
Decides-sound_and_used t report =
    let cs = objects_in t report in
    Decides-like (is_sound_and_used t report)
    (λ (h : MeetsUpTo 9 t report cs × IsUsed t report cs). (cs, meets-sound t report cs h.0, h.1))
    (λ h. (
    let objects = h.0 in
    let s = h.1 in
    let u = h.2 in
    let same : AllZip IsSame objects cs =
    subst (λ (answers : List Answer). AllZip IsSame objects (seated_objects (past_in report) (requests_of t) answers)) s.answers.printed
    (seated-same (marked_by t) (past_in report) (requests_of t) objects s.answers.asked s.places) in
    (meets-seated 9 t report objects (sound-meets t report objects s), record { wanted = wanted-alike (past_in report) objects cs same u.wanted; scavenged = u.scavenged })))
    (Decides-then (meets 9 t report) (is_used t report cs) (Decides-meets_up_to 9 t report) (Decides-used t report cs))
