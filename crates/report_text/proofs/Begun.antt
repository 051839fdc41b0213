-- Lines in turn begin a report's text.
use Rattle.std.proofs.Common.{◌≡◌, ℕ, ◌<◌, List, [], ◌∷◌, ◌++◌, Option, Some, None, refl, sym, ap, ◌∙◌, subst, arith, append_assoc}
use Rattle.std.proofs.lemmas.List.{append-nil}
use Rattle.cycle_history.specs.declared.Report.{Report}
use Rattle.report_text.specs.declared.item.Item.{Item}
use Rattle.report_text.specs.declared.item.Item.TheVariants.{Object, Journal, Sweep, Class, Bucket, End}
use Rattle.report_text.specs.Gathered.{with_item}
use Rattle.report_text.specs.Items.{AreInTurn, MayFollow, rank}
use Rattle.report_text.specs.Laws.{BeginsText}
use Rattle.report_text.specs.Read.{IsText}
use Rattle.report_text.specs.Refusal.{told}
use Rattle.report_text.proofs.Reading.{told-append}
use Rattle.report_text.proofs.Refused.{none_behind_end}
use Rattle.report_text.proofs.Stage.{Stage, body_more, stage_more, stage_start}
use Rattle.report_text.proofs.Turns.{body, told_text}

abbrev Begins : List ℕ → Type 0
Begins bytes = (report : Report) × (rest : List ℕ) × IsText (bytes ++ rest) report

-- the report whose lines these are, with the last line
its_text : (before : Option Item) (r : Report) → Stage before r → IsText (told (body r ++ End ∷ [])) r
its_text before r stage = record { text = told_text r; fits = stage.fits; sweeps = stage.sweeps; totals = stage.totals; profile = stage.profile }

-- the same lines with the first of them in the report
moved : (before : Option Item) (r : Report) (x : Item) (xs : List Item) → Stage before r → MayFollow before x → rank x < 6 → Begins (told (body (with_item r x) ++ xs)) → Begins (told (body r ++ x ∷ xs))
moved before r x xs stage follows low begins =
    let same : body (with_item r x) ++ xs ≡ body r ++ x ∷ xs = ap (λ (ys : List Item). ys ++ xs) (body_more before r x stage follows low) ∙ append_assoc (body r) (x ∷ []) xs in
    subst (λ (ys : List Item). Begins (told ys)) same begins

begun : (before : Option Item) (r : Report) (xs : List Item) → Stage before r → AreInTurn before xs → Begins (told (body r ++ xs))
begun before r [] stage turn =
    (r, told (End ∷ []), subst (λ (t : List ℕ). IsText t r) (told-append (body r) (End ∷ []) ∙ ap (λ (xs : List Item). told xs ++ told (End ∷ [])) (sym (append-nil (body r)))) (its_text before r stage))
begun before r (End ∷ []) stage turn = (r, [], subst (λ (t : List ℕ). IsText t r) (sym (append-nil (told (body r ++ End ∷ [])))) (its_text before r stage))
begun before r (End ∷ x ∷ xs) stage turn = absurd (none_behind_end x turn.2.1)
begun before r (Object n a ∷ xs) stage turn = moved before r (Object n a) xs stage turn.1 (omega arith) (begun (Some (Object n a)) (with_item r (Object n a)) xs (stage_more before r (Object n a) stage turn.0 turn.1 (omega arith)) turn.2)
begun before r (Journal n a ∷ xs) stage turn = moved before r (Journal n a) xs stage turn.1 (omega arith) (begun (Some (Journal n a)) (with_item r (Journal n a)) xs (stage_more before r (Journal n a) stage turn.0 turn.1 (omega arith)) turn.2)
begun before r (Sweep a ∷ xs) stage turn = moved before r (Sweep a) xs stage turn.1 (omega arith) (begun (Some (Sweep a)) (with_item r (Sweep a)) xs (stage_more before r (Sweep a) stage turn.0 turn.1 (omega arith)) turn.2)
begun before r (Class a ∷ xs) stage turn = moved before r (Class a) xs stage turn.1 (omega arith) (begun (Some (Class a)) (with_item r (Class a)) xs (stage_more before r (Class a) stage turn.0 turn.1 (omega arith)) turn.2)
begun before r (Bucket a ∷ xs) stage turn = moved before r (Bucket a) xs stage turn.1 (omega arith) (begun (Some (Bucket a)) (with_item r (Bucket a)) xs (stage_more before r (Bucket a) stage turn.0 turn.1 (omega arith)) turn.2)

pub lines_begin : BeginsText
lines_begin xs turn = begun None nothing xs (stage_start nothing (record { answers = refl; journal = refl; sweeps = refl; totals = refl; profile = refl })) turn where
  nothing : Report
  nothing = record { answers = []; journal = []; sweeps = []; totals = []; profile = [] }
