-- As a cycle ends, each span that was cut in it is one of the journal's open lives.
use Rattle.std.proofs.Common.{◌≡◌, ℕ, ◌≤◌, List, [], ◌∷◌, ◌++◌, length, refl, sym, ap, arith, inl, inr, subst}
use Rattle.std.proofs.lemmas.List.{length-append}
use Rattle.page_bitmap.specs.declared.line.Line.{Line}
use Rattle.page_bitmap.specs.declared.line.Line.TheVariants.{Take, Miss, Give, Scav, Pull, Cut, Drop}
use Rattle.page_alloc.specs.Lists.{In}
use Rattle.page_alloc.specs.Lives.{Life, life_of, open_lives}
use Rattle.page_alloc.proofs.Lives.{to_others}
use Rattle.worker_log.specs.declared.Entry.{Entry}
use Rattle.worker_log.specs.declared.Entry.TheVariants.{Cut as CutEntry}
use Rattle.run_laws.specs.Blocks.{cut_by, cut_out, cuttings}
use Rattle.run_laws.specs.Facts.{AreGivesOld}
use Rattle.run_laws.proofs.Lists.{in-right}

-- a Cut entry is one of a log's cuts
pub in-cuttings : (log : List Entry) (page pages class : ℕ) → In (CutEntry page pages class) log → In (cut_out page pages class) (cuttings log)
in-cuttings [] page pages class h = absurd h
in-cuttings (e ∷ log) page pages class h = elim h [
  | inl here ↦ subst (λ (x : Entry). In (cut_out page pages class) (cut_by x ++ cuttings log)) (sym here) (inl refl)
  | inr there ↦ in-right (cut_by e) (cuttings log) (cut_out page pages class) (in-cuttings log page pages class there)
]

-- the first page and the pages of a Cut line
abbrev page_in : Line → ℕ
page_in (Cut cycle proc page pages class) = page
page_in line = 0

abbrev pages_in : Line → ℕ
pages_in (Cut cycle proc page pages class) = pages
pages_in line = 0

-- The life of a Cut line is open, and no older than the cycle.
pub record HasCutLife (before past : List Line) (page pages : ℕ) : Type 0 where
  pub life : Life
  pub here : In life (open_lives past)
  pub page_is : life.page ≡ page
  pub pages_are : life.pages ≡ pages
  pub young : length before ≤ life.number

-- a line that ends no life keeps it
keeps : (before past now : List Line) (page pages : ℕ) → ((life : Life) → In life (open_lives past) → In life (open_lives now)) → HasCutLife before past page pages → HasCutLife before now page pages
keeps before past now page pages more h = record { life = h.life; here = more h.life h.here; page_is = h.page_is; pages_are = h.pages_are; young = h.young }

pub cut-open : (logs : ℕ → List Entry) (before lines : List Line) (cycle proc page pages class : ℕ) → AreGivesOld logs before lines → In (Cut cycle proc page pages class) lines
    → HasCutLife before (lines ++ before) page pages
cut-open logs before [] cycle proc page pages class old h = absurd h
cut-open logs before (Take c p n k ∷ lines) cycle proc page pages class old h = elim h [
  | inl here ↦ absurd (let no : ⊥ = cc in no)
  | inr there ↦ keeps before (lines ++ before) (Take c p n k ∷ lines ++ before) page pages (λ life i. inr i) (cut-open logs before lines cycle proc page pages class old there)
]
cut-open logs before (Miss c n k ∷ lines) cycle proc page pages class old h = elim h [
  | inl here ↦ absurd (let no : ⊥ = cc in no)
  | inr there ↦ keeps before (lines ++ before) (Miss c n k ∷ lines ++ before) page pages (λ life i. i) (cut-open logs before lines cycle proc page pages class old there)
]
cut-open logs before (Give c p n ∷ lines) cycle proc page pages class old h = elim h [
  | inl here ↦ absurd (let no : ⊥ = cc in no)
  | inr there ↦ (
      let was = cut-open logs before lines cycle proc page pages class old.1 there in
      record {
        life = was.life;
        here = to_others p (open_lives (lines ++ before)) was.life was.here (λ same. (let lt = (old.0 was.life was.here same).0 in let y = was.young in absurd (omega arith)));
        page_is = was.page_is;
        pages_are = was.pages_are;
        young = was.young;
      })
]
cut-open logs before (Scav c p n ∷ lines) cycle proc page pages class old h = elim h [
  | inl here ↦ absurd (let no : ⊥ = cc in no)
  | inr there ↦ keeps before (lines ++ before) (Scav c p n ∷ lines ++ before) page pages (λ life i. i) (cut-open logs before lines cycle proc page pages class old there)
]
cut-open logs before (Pull c w p n ∷ lines) cycle proc page pages class old h = elim h [
  | inl here ↦ absurd (let no : ⊥ = cc in no)
  | inr there ↦ keeps before (lines ++ before) (Pull c w p n ∷ lines ++ before) page pages (λ life i. i) (cut-open logs before lines cycle proc page pages class old there)
]
cut-open logs before (Cut c w p n k ∷ lines) cycle proc page pages class old h = elim h [
  | inl here ↦ record {
    life = life_of (length (lines ++ before)) c p n k;
    here = inl refl;
    page_is = ap page_in here;
    pages_are = ap pages_in here;
    young = (let l = length-append lines before in omega arith);
  }
  | inr there ↦ keeps before (lines ++ before) (Cut c w p n k ∷ lines ++ before) page pages (λ life i. inr i) (cut-open logs before lines cycle proc page pages class old there)
]
cut-open logs before (Drop c w p n ∷ lines) cycle proc page pages class old h = elim h [
  | inl here ↦ absurd (let no : ⊥ = cc in no)
  | inr there ↦ keeps before (lines ++ before) (Drop c w p n ∷ lines ++ before) page pages (λ life i. i) (cut-open logs before lines cycle proc page pages class old there)
]
