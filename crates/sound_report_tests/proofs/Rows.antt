-- What the definitions say of each row.
use Rattle.std.proofs.Common.{◌≡◌, ℕ, zero, suc, ◌-◌, Bool, true, false, not, List, [], ◌∷◌, refl, subst, arith}
use Rattle.std.proofs.lemmas.Bool.Decides.{Decides-not}
use Rattle.page_alloc.specs.Lists.{count_below}
use Rattle.size_classes.specs.Classes.{slot_of, pages_of, objects_of}
use Rattle.profile_cycle.specs.Sampling.{drawn, words_of}
use Rattle.cycle_history.specs.Broken.{MeetsRules}
use Rattle.cycle_history.proofs.Meets.{meets-sound}
use Rattle.sound_report_tests.specs.Words.{Row, UsedRow, IsJudged, AllAgree, IsUseJudged, AllUseAgree}
use Rattle.sound_report_tests.specs.Rows.{sound_rows, answer_rows, journal_rows, miss_rows, place_rows, apart_rows, filling_rows, used_rows}
use Rattle.sound_report_tests.specs.SweptRows.{marked_rows, sweep_rows, give_rows, total_rows}
use Rattle.sound_report_tests.specs.ProfileRows.{profile_rows, last_rows, each_rows}
use Rattle.sound_report_tests.specs.CachedRows.{cached_rows, cached_used_rows}
use Rattle.sound_report_tests.proofs.Tests.{all_in, Decides-then}
use Rattle.sound_report_tests.proofs.Decided.{meets, Decides-meets}
use Rattle.sound_report_tests.proofs.Used.{is_sound_and_used, Decides-sound_and_used}

abbrev pub is_judged : ℕ → Row → Bool
is_judged zero row = meets 9 row.trace row.report
is_judged (suc n) row = elim (meets n row.trace row.report) [ true ↦ not (meets (suc n) row.trace row.report) | false ↦ false ]

abbrev pub agrees : Row → Bool
agrees row = is_judged row.broken row

judged-right : (n : ℕ) (row : Row) → is_judged n row ≡ true → IsJudged n row.trace row.report
judged-right zero row h = (let m = (Decides-meets 9 row.trace row.report).0 h in (m.0, meets-sound row.trace row.report m.0 m.1))
judged-right (suc n) row h =
    let both = (Decides-then (meets n row.trace row.report) (not (meets (suc n) row.trace row.report)) (Decides-meets n row.trace row.report)
    (Decides-not (meets (suc n) row.trace row.report) (Decides-meets (suc n) row.trace row.report))).0 h in
    let before : n ≡ suc n - 1 = omega arith in
    record { some = omega arith; before = subst (λ (k : ℕ). MeetsRules k row.trace row.report) before both.0; broken = both.1 }

all_agree : (rows : List Row) → all_in agrees rows ≡ true → AllAgree rows
all_agree [] h = tt
all_agree (row ∷ rows) h =
    let both = (Decides-then (agrees row) (all_in agrees rows) (λ e. e, λ e. e) (λ e. e, λ e. e)).0 h in
    (judged-right row.broken row both.0, all_agree rows both.1)

pub answers_agree : AllAgree answer_rows
unfolding count_below slot_of pages_of objects_of answer_rows
answers_agree = all_agree answer_rows refl

pub journals_agree : AllAgree journal_rows
unfolding count_below slot_of pages_of objects_of journal_rows
journals_agree = all_agree journal_rows refl

pub cached_agree : AllAgree cached_rows
unfolding count_below slot_of pages_of objects_of cached_rows
cached_agree = all_agree cached_rows refl

pub misses_agree : AllAgree miss_rows
unfolding count_below slot_of pages_of objects_of miss_rows
misses_agree = all_agree miss_rows refl

pub places_agree : AllAgree place_rows
unfolding count_below slot_of pages_of objects_of place_rows
places_agree = all_agree place_rows refl

pub aparts_agree : AllAgree apart_rows
unfolding count_below slot_of pages_of objects_of apart_rows
aparts_agree = all_agree apart_rows refl

pub fillings_agree : AllAgree filling_rows
unfolding count_below slot_of pages_of objects_of filling_rows
fillings_agree = all_agree filling_rows refl

pub marks_agree : AllAgree marked_rows
unfolding count_below slot_of pages_of objects_of marked_rows
marks_agree = all_agree marked_rows refl

pub sounds_agree : AllAgree sound_rows
unfolding count_below slot_of pages_of objects_of sound_rows
sounds_agree = all_agree sound_rows refl

pub sweeps_agree : AllAgree sweep_rows
unfolding count_below slot_of pages_of objects_of sweep_rows
sweeps_agree = all_agree sweep_rows refl

pub gives_agree : AllAgree give_rows
unfolding count_below slot_of pages_of objects_of give_rows
gives_agree = all_agree give_rows refl

pub totals_agree : AllAgree total_rows
unfolding count_below slot_of pages_of objects_of total_rows
totals_agree = all_agree total_rows refl

pub profiles_agree : AllAgree profile_rows
unfolding count_below slot_of pages_of objects_of drawn words_of profile_rows
profiles_agree = all_agree profile_rows refl

pub lasts_agree : AllAgree last_rows
unfolding count_below slot_of pages_of objects_of drawn words_of last_rows
lasts_agree = all_agree last_rows refl

pub eaches_agree : AllAgree each_rows
unfolding count_below slot_of pages_of objects_of drawn words_of each_rows
eaches_agree = all_agree each_rows refl

abbrev pub use_judged : Bool → UsedRow → Bool
use_judged true row = is_sound_and_used row.trace row.report
use_judged false row = elim (meets 9 row.trace row.report) [ true ↦ not (is_sound_and_used row.trace row.report) | false ↦ false ]

abbrev pub use_agrees : UsedRow → Bool
use_agrees row = use_judged row.used row

use-right : (b : Bool) (row : UsedRow) → use_judged b row ≡ true → IsUseJudged b row.trace row.report
use-right true row h = (Decides-sound_and_used row.trace row.report).0 h
use-right false row h =
    let both = (Decides-then (meets 9 row.trace row.report) (not (is_sound_and_used row.trace row.report)) (Decides-meets 9 row.trace row.report)
    (Decides-not (is_sound_and_used row.trace row.report) (Decides-sound_and_used row.trace row.report))).0 h in
    ((both.0.0, meets-sound row.trace row.report both.0.0 both.0.1), both.1)

all_use_agree : (rows : List UsedRow) → all_in use_agrees rows ≡ true → AllUseAgree rows
all_use_agree [] h = tt
all_use_agree (row ∷ rows) h =
    let both = (Decides-then (use_agrees row) (all_in use_agrees rows) (λ e. e, λ e. e) (λ e. e, λ e. e)).0 h in
    (use-right row.used row both.0, all_use_agree rows both.1)

pub uses_agree : AllUseAgree used_rows
unfolding count_below slot_of pages_of objects_of used_rows
uses_agree = all_use_agree used_rows refl

pub cached_uses_agree : AllUseAgree cached_used_rows
unfolding count_below slot_of pages_of objects_of cached_used_rows
cached_uses_agree = all_use_agree cached_used_rows refl
