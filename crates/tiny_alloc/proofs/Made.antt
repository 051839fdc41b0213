-- Where there is one answer for each object, zero exactly where its size is 0, rule 1 is met.
use Rattle.std.proofs.Common.{◌≡◌, ℕ, zero, suc, ◌+◌, ◌≤◌, List, [], ◌∷◌, ◌++◌, length, map, reverse, take, Option, Some, refl, sym, ◌∙◌, ap, subst, arith, ◌↔◌}
use Rattle.std.specs.List.{slice_get}
use Rattle.std.specs.Option.{option_map}
use Rattle.std.proofs.lemmas.List.{length-map, take_all, take_more}
use Rattle.std.proofs.lemmas.Option.{get_or_from_slice_get, slice_get-map}
use Rattle.trace_reader.specs.declared.trace.Trace.{Trace}
use Rattle.trace_reader.specs.declared.trace.Event.{Event}
use Rattle.trace_reader.specs.Limits.{events_of}
use Rattle.cycle_history.specs.declared.Answer.{Answer}
use Rattle.cycle_history.specs.declared.Answer.TheVariants.{Zero}
use Rattle.cycle_history.specs.declared.Report.{Report}
use Rattle.cycle_history.specs.Requests.{Request, requests_from}
use Rattle.cycle_history.specs.Objects.{Object}
use Rattle.cycle_history.specs.Rules.{AreAnswered, IsObject}
use Rattle.cycle_history.specs.Broken.{MeetsRules, MeetsUpTo}
use Rattle.cycle_history.specs.Sound.{HasAnswers}
use Rattle.cycle_history.proofs.Plain.{answered-more, printed-more}
use Rattle.cycle_history.proofs.Counted.{get-some}
use Rattle.cycle_history.proofs.OfObjects.{requests-events}
use Rattle.tiny_alloc.proofs.Needs.{a-need}

-- ---- requests and events

pub requests-length : (t : Trace) → length (requests_from 0 t.cycles) ≡ length (events_of t)
requests-length t = sym (length-map (requests_from 0 t.cycles) (λ (r : Request). r.event)) ∙ ap (λ (es : List Event). length es) (requests-events 0 t.cycles)

pub request-event : (t : Trace) (i : ℕ) (r : Request) → slice_get (requests_from 0 t.cycles) i ≡ Some r → slice_get (events_of t) i ≡ Some r.event
request-event t i r at =
    sym (ap (λ (es : List Event). slice_get es i) (requests-events 0 t.cycles))
    ∙ slice_get-map (λ (x : Request). x.event) (requests_from 0 t.cycles) i
    ∙ ap (λ (o : Option Request). option_map (λ (x : Request). x.event) o) at

-- each answer is zero exactly where its request's size is 0
abbrev pub AreRight : List Request → List Answer → Type 0
AreRight rs answers = (i : ℕ) (r : Request) (a : Answer) → slice_get rs i ≡ Some r → slice_get answers i ≡ Some a → (a ≡ Zero) ↔ (r.event.size ≡ 0)

-- ---- objects, one more at a time

abbrev Made : List Request → List Answer → ℕ → Type 0
Made rs answers n = (objects : List Object) × AreAnswered (reverse (take n rs)) objects × (map (λ (o : Object). o.answer) objects ≡ reverse (take n answers))

object-for : (r : Request) (n : ℕ) (a : Answer) → (a ≡ Zero) ↔ (r.event.size ≡ 0) → (o : Object) × IsObject r n o × (o.answer ≡ a)
object-for r n a iff =
    let need = a-need r.event.size r.event.scan in (
      record { id = n; proc = r.event.proc; cycle = r.cycle; need = need.0; answer = a; life = 0; index = 0 },
      record { id = refl; proc = refl; cycle = refl; zero = iff; need = λ some. need.1 },
      refl,
    )

made : (rs : List Request) (answers : List Answer) → length answers ≡ length rs → AreRight rs answers → (n : ℕ) → n ≤ length rs → Made rs answers n
made rs answers size each zero le = ([], tt, refl)
made rs answers size each (suc n) le =
    let old = made rs answers size each n (omega arith) in
    let r = get-some rs n (omega arith) in
    let a = get-some answers n (omega arith) in
    let o = object-for r.0 (length (reverse (take n rs))) a.0 (each n r.0 a.0 r.1 a.1) in
    let e : n + 1 ≡ suc n = omega arith in
    let requests : take (n + 1) rs ≡ take n rs ++ r.0 ∷ [] = take_more rs n r.0 (omega arith) ∙ ap (λ (x : Request). take n rs ++ x ∷ []) (get_or_from_slice_get rs n r.0 r.0 r.1) in
    let printed : take (n + 1) answers ≡ take n answers ++ a.0 ∷ [] = take_more answers n a.0 (omega arith) ∙ ap (λ (x : Answer). take n answers ++ x ∷ []) (get_or_from_slice_get answers n a.0 a.0 a.1) in
    subst (λ (k : ℕ). Made rs answers k) e (
      o.0 ∷ old.0,
      subst (λ (xs : List Request). AreAnswered (reverse xs) (o.0 ∷ old.0)) (sym requests) (answered-more (take n rs) r.0 old.0 o.0 old.1 o.1),
      printed-more (take n answers) old.0 o.0 old.2 ∙ ap (λ (x : Answer). reverse (take n answers ++ x ∷ [])) o.2 ∙ ap (λ (xs : List Answer). reverse xs) (sym printed),
    )

-- ---- rule 1

meets-one : (t : Trace) (report : Report) (objects : List Object) → HasAnswers t report objects → MeetsUpTo 1 t report objects
meets-one t report objects has = record {
  answers = λ le. has;
  journal = λ le. absurd (omega arith);
  misses = λ le. absurd (omega arith);
  places = λ le. absurd (omega arith);
  apart = λ le. absurd (omega arith);
  filling = λ le. absurd (omega arith);
  sweeps = λ le. absurd (omega arith);
  totals = λ le. absurd (omega arith);
  profile = λ le. absurd (omega arith);
}

pub meets-right : (t : Trace) (report : Report) → length report.answers ≡ length (requests_from 0 t.cycles) → AreRight (requests_from 0 t.cycles) report.answers → MeetsRules 1 t report
meets-right t report size right =
    let all = made (requests_from 0 t.cycles) report.answers size right (length (requests_from 0 t.cycles)) (omega arith) in
    let requests = take_all (length (requests_from 0 t.cycles)) (requests_from 0 t.cycles) (omega arith) in
    let printed = take_all (length (requests_from 0 t.cycles)) report.answers (omega arith) in (
      all.0,
      meets-one t report all.0 (record {
        asked = subst (λ (xs : List Request). AreAnswered (reverse xs) all.0) requests all.1;
        printed = all.2 ∙ ap (λ (xs : List Answer). reverse xs) printed;
      }),
    )
