-- Cycles with one slip each, beside the cycle of two processors in which all is right.
use Rattle.std.specs.Prelude.{ℕ, Bool, ◌&&◌, ◌||◌, ◌==◌, List, [], ◌∷◌, ◌++◌}
use Rattle.page_bitmap.specs.declared.line.Line.{Line}
use Rattle.page_bitmap.specs.declared.line.Line.TheVariants.{Take, Miss, Give}
use Rattle.span_state.specs.declared.sweep.SweepNote.{SweepNote}
use Rattle.cycle_history.specs.declared.Answer.TheVariants.{Missed as MissedAnswer}
use Rattle.cycle_history.specs.Requests.{Marking}
use Rattle.cycle_history.specs.Objects.{Object}
use Rattle.worker_log.specs.declared.Entry.TheVariants.{Pushed, Missed}
use Rattle.run_laws.specs.CycleSoFar.{CycleSoFar, past_after}
use Rattle.run_laws.specs.Reached.{Began, Reached}
use Rattle.run_laws_tests.specs.TwoWorkers.{All, marked, small, large, object, at, first, none, lines1, logs_of, swept, marks1, bits1, second, note, notes1, cycle1}

-- An object that was missed at a line, since no run of so many pages was free.
abbrev pub missed : ℕ → ℕ → ℕ → Object
missed id proc line = record (object id proc 1 (record large { pages = 600; slot = 4915200 }) 0 0 0) { answer = MissedAnswer line }

-- None of these cycles has the facts.
abbrev pub NoneHas : (CycleSoFar → Type 0) → List CycleSoFar → Type 0
NoneHas facts cycles = All (λ e. ¬ facts e) cycles

-- Each of these cycles breaks the run, which was sound as cycle 1 began: it hasn't reached its end.
abbrev pub AllBreak : List CycleSoFar → Type 0
AllBreak cycles = All (λ e. ¬ Reached marked 512 512 1 (past_after e) (e.news ++ first) (e.notes ++ []) e.bits) cycles

-- ---- lines

abbrev pub page_in_use_taken : CycleSoFar
page_in_use_taken = record cycle1 { lines = Take 1 0 1 88 ∷ lines1 }

abbrev pub line_of_the_cycle_before : CycleSoFar
line_of_the_cycle_before = record cycle1 { lines = Give 0 2 5 ∷ [] }

abbrev pub marked_life_given_back : CycleSoFar
marked_life_given_back = record cycle1 { lines = Give 1 1 1 ∷ lines1 }

abbrev pub wrong_lines : List CycleSoFar
wrong_lines = page_in_use_taken ∷ line_of_the_cycle_before ∷ marked_life_given_back ∷ []

-- ---- sweeps

abbrev pub life_not_swept : CycleSoFar
life_not_swept = record cycle1 { logs = logs_of [] (at 1 0 1 88 ∷ swept 1 1 1 ∷ []) (Pushed 0 0 ∷ swept 2 0 1 ∷ []); notes = note 2 0 1 ∷ note 1 1 1 ∷ [] }

abbrev pub no_life_swept : CycleSoFar
no_life_swept = record cycle1 { logs = logs_of (swept 9 0 0 ∷ swept 0 1 0 ∷ []) (at 1 0 1 88 ∷ swept 1 1 1 ∷ []) (Pushed 0 0 ∷ swept 2 0 1 ∷ []); notes = note 9 0 0 ∷ notes1 }

abbrev pub kept_left_out : CycleSoFar
kept_left_out = record cycle1 { logs = logs_of (swept 0 0 0 ∷ []) (at 1 0 1 88 ∷ swept 1 1 1 ∷ []) (Pushed 0 0 ∷ swept 2 0 1 ∷ []); notes = note 2 0 1 ∷ note 1 1 1 ∷ note 0 0 0 ∷ [] }

abbrev pub freed_left_out : CycleSoFar
freed_left_out = record cycle1 { logs = logs_of (swept 0 1 0 ∷ []) (at 1 0 1 88 ∷ swept 1 1 0 ∷ []) (Pushed 0 0 ∷ swept 2 0 1 ∷ []); notes = note 2 0 1 ∷ note 1 1 0 ∷ note 0 1 0 ∷ [] }

abbrev pub wrong_sweeps : List CycleSoFar
wrong_sweeps = life_not_swept ∷ no_life_swept ∷ kept_left_out ∷ freed_left_out ∷ []

-- ---- notes

abbrev pub note_of_no_sweep : CycleSoFar
note_of_no_sweep = record cycle1 { notes = note 9 0 1 ∷ notes1 }

abbrev pub sweep_without_a_note : CycleSoFar
sweep_without_a_note = record cycle1 { notes = note 1 1 1 ∷ note 0 1 0 ∷ [] }

abbrev pub notes_out_of_order : CycleSoFar
notes_out_of_order = record cycle1 { notes = note 1 1 1 ∷ note 2 0 1 ∷ note 0 1 0 ∷ [] }

abbrev pub wrong_notes : List CycleSoFar
wrong_notes = note_of_no_sweep ∷ sweep_without_a_note ∷ notes_out_of_order ∷ []

-- ---- marks

abbrev pub marks_lost : CycleSoFar
marks_lost = record cycle1 { lines = Give 1 0 1 ∷ lines1; marks = none; bits = λ page k. page == 1 && k == 0; logs = logs_of (swept 0 0 1 ∷ []) (at 1 0 1 88 ∷ swept 1 0 2 ∷ []) (Pushed 0 0 ∷ swept 2 0 1 ∷ []); notes = note 2 0 1 ∷ note 1 0 2 ∷ note 0 0 1 ∷ [] }

abbrev pub page_of_no_life_marked : CycleSoFar
page_of_no_life_marked = record cycle1 { lines = Give 1 2 5 ∷ Take 1 7 1 88 ∷ []; marks = λ page k. marks1 page k || page == 7 && k == 0; bits = λ page k. bits1 page k || page == 7 && (k == 0 || k == 1); logs = logs_of (swept 0 1 0 ∷ []) (at 7 1 3 88 ∷ at 1 0 1 88 ∷ swept 1 1 1 ∷ []) (Pushed 0 0 ∷ swept 2 0 1 ∷ []); news = object 5 1 1 small 7 3 1 ∷ second }

abbrev pub wrong_marks : List CycleSoFar
wrong_marks = marks_lost ∷ page_of_no_life_marked ∷ []

-- ---- places

abbrev pub placed_in_no_life : CycleSoFar
placed_in_no_life = record cycle1 { logs = logs_of (swept 0 1 0 ∷ []) (at 9 0 9 88 ∷ swept 1 1 1 ∷ []) (Pushed 0 0 ∷ swept 2 0 1 ∷ []); news = object 4 1 1 small 9 9 0 ∷ [] }

abbrev pub placed_past_the_end : CycleSoFar
placed_past_the_end = record cycle1 { logs = logs_of (swept 0 1 0 ∷ []) (at 1 2 1 88 ∷ swept 1 1 1 ∷ []) (Pushed 0 0 ∷ swept 2 0 1 ∷ []); news = object 4 1 1 small 1 1 2 ∷ [] }

abbrev pub placed_on_a_marked_one : CycleSoFar
placed_on_a_marked_one = record cycle1 { logs = logs_of (swept 0 1 0 ∷ []) (at 1 1 1 88 ∷ swept 1 1 1 ∷ []) (Pushed 0 0 ∷ swept 2 0 1 ∷ []); news = object 4 1 1 small 1 1 1 ∷ [] }

abbrev pub placed_twice : CycleSoFar
placed_twice = record cycle1 { logs = logs_of (swept 0 1 0 ∷ []) (at 1 0 1 88 ∷ at 1 0 1 88 ∷ swept 1 1 1 ∷ []) (Pushed 0 0 ∷ swept 2 0 1 ∷ []); news = object 5 1 1 small 1 1 0 ∷ second }

abbrev pub placed_by_two_workers : CycleSoFar
placed_by_two_workers = record cycle1 { logs = logs_of (at 1 0 1 88 ∷ swept 0 1 0 ∷ []) (at 1 0 1 88 ∷ swept 1 1 1 ∷ []) (Pushed 0 0 ∷ swept 2 0 1 ∷ []); news = object 5 0 1 small 1 1 0 ∷ second }

abbrev pub wrong_places : List CycleSoFar
wrong_places = placed_in_no_life ∷ placed_past_the_end ∷ placed_on_a_marked_one ∷ placed_twice ∷ placed_by_two_workers ∷ []

-- ---- allocated indices

abbrev pub bit_of_no_object : CycleSoFar
bit_of_no_object = record cycle1 { bits = λ page k. bits1 page k || page == 0 && k == 1 }

abbrev pub marked_bit_lost : CycleSoFar
marked_bit_lost = record cycle1 { bits = λ page k. bits1 page k && k == 0 }

abbrev pub placed_bit_lost : CycleSoFar
placed_bit_lost = record cycle1 { bits = marks1 }

abbrev pub empty_life_not_given_back : CycleSoFar
empty_life_not_given_back = record cycle1 { lines = [] }

abbrev pub wrong_bits : List CycleSoFar
wrong_bits = bit_of_no_object ∷ marked_bit_lost ∷ placed_bit_lost ∷ empty_life_not_given_back ∷ []

-- ---- filling

abbrev pub lowest_index_passed_over : CycleSoFar
lowest_index_passed_over = record cycle1 { lines = Take 1 2 1 88 ∷ lines1; bits = λ page k. bits1 page k || page == 2 && k == 1; logs = logs_of (swept 0 1 0 ∷ []) (at 2 1 4 88 ∷ at 1 0 1 88 ∷ swept 1 1 1 ∷ []) (Pushed 0 0 ∷ swept 2 0 1 ∷ []); news = object 5 1 1 small 2 4 1 ∷ second }

abbrev pub span_left_with_room : CycleSoFar
span_left_with_room = record cycle1 { lines = Take 1 2 1 88 ∷ lines1; bits = λ page k. bits1 page k || page == 2 && k == 0; logs = logs_of (swept 0 1 0 ∷ []) (at 1 0 1 88 ∷ at 2 0 4 88 ∷ swept 1 1 1 ∷ []) (Pushed 0 0 ∷ swept 2 0 1 ∷ []); news = object 5 1 1 small 1 1 0 ∷ object 4 1 1 small 2 4 0 ∷ [] }

abbrev pub wrong_filling : List CycleSoFar
wrong_filling = lowest_index_passed_over ∷ span_left_with_room ∷ []

-- ---- objects

abbrev pub object_of_the_cycle_before : CycleSoFar
object_of_the_cycle_before = record cycle1 { news = object 4 1 0 small 1 1 0 ∷ [] }

abbrev pub number_used_before : CycleSoFar
number_used_before = record cycle1 { news = object 3 1 1 small 1 1 0 ∷ [] }

abbrev pub number_used_twice : CycleSoFar
number_used_twice = record cycle1 { news = second ++ second }

abbrev pub slots_beyond_the_pages : CycleSoFar
slots_beyond_the_pages = record cycle1 { news = object 4 1 1 (record small { count = 3 }) 1 1 0 ∷ [] }

abbrev pub object_elsewhere_than_placed : CycleSoFar
object_elsewhere_than_placed = record cycle1 { news = object 4 1 1 small 0 0 1 ∷ [] }

abbrev pub missed_with_no_refusal : CycleSoFar
missed_with_no_refusal = record cycle1 { news = missed 5 1 3 ∷ second }

abbrev pub life_of_other_pages : CycleSoFar
life_of_other_pages = record cycle1 { news = object 4 1 1 (record small { pages = 2 }) 1 1 0 ∷ [] }

abbrev pub wrong_objects : List CycleSoFar
wrong_objects = object_of_the_cycle_before ∷ number_used_before ∷ number_used_twice ∷ slots_beyond_the_pages ∷ object_elsewhere_than_placed ∷ missed_with_no_refusal ∷ life_of_other_pages ∷ []

-- A marking in which an object comes back that a mark end had left out.
abbrev pub marked_again : Marking
marked_again m id = marked m id || m == 3 && id == 4

-- ---- refusals

abbrev pub refused_at_another_line : CycleSoFar
refused_at_another_line = record cycle1 { logs = logs_of (swept 0 1 0 ∷ []) (Missed 3 (Miss 1 600 1) ∷ at 1 0 1 88 ∷ swept 1 1 1 ∷ []) (Pushed 0 0 ∷ swept 2 0 1 ∷ []); news = missed 5 1 3 ∷ second }

abbrev pub refused_twice_at_one_line : CycleSoFar
refused_twice_at_one_line = record cycle1 { lines = Miss 1 600 1 ∷ lines1; logs = logs_of (swept 0 1 0 ∷ []) (Missed 4 (Miss 1 600 1) ∷ Missed 4 (Miss 1 600 1) ∷ at 1 0 1 88 ∷ swept 1 1 1 ∷ []) (Pushed 0 0 ∷ swept 2 0 1 ∷ []); news = missed 6 1 4 ∷ missed 5 1 4 ∷ second }

abbrev pub two_workers_refused_at_one_line : CycleSoFar
two_workers_refused_at_one_line = record cycle1 { lines = Miss 1 600 1 ∷ lines1; logs = logs_of (Missed 4 (Miss 1 600 1) ∷ swept 0 1 0 ∷ []) (Missed 4 (Miss 1 600 1) ∷ at 1 0 1 88 ∷ swept 1 1 1 ∷ []) (Pushed 0 0 ∷ swept 2 0 1 ∷ []); news = missed 6 0 4 ∷ missed 5 1 4 ∷ second }

abbrev pub wrong_refusals : List CycleSoFar
wrong_refusals = refused_at_another_line ∷ refused_twice_at_one_line ∷ two_workers_refused_at_one_line ∷ []

-- ---- beginnings

-- What cycle 1 begins with is right but for one thing.
abbrev pub Begins : List Line → List Object → List SweepNote → (ℕ → ℕ → Bool) → Type 0
Begins past objects notes carried = Began marked 512 512 1 past objects notes carried
