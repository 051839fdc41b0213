-- What lines leave for those behind them, and when one may stand there.
use Rattle.std.proofs.Common.{◌≡◌, ℕ, suc, ◌+◌, ◌-◌, ◌*◌, ◌/◌, ◌^◌, ◌<◌, ◌≤◌, Bool, true, false, eqb, nat_eq, List, [], ◌∷◌, ◌++◌, refl, sym, ap, ◌∙◌, subst, ◌⊎◌, inl, inr, arith, MatchBool}
use Rattle.std.specs.List.{AllByRecursion, sum_by}
use Rattle.std.proofs.lemmas.Bool.{cases_eq, eq-eqb, ne_eqb}
use Rattle.std.proofs.lemmas.Nat.{div-mul-add}
use Rattle.std.proofs.lemmas.List.Sums.{sum_by-append, sum_by-cons, sum_by_push}
use Rattle.page_alloc.specs.Lists.{AllApart, In}
use Rattle.trace_reader.proofs.Digits.{AllByRecursion-push}
use Rattle.heap_text.specs.declared.text.HeapLine.{HeapLine}
use Rattle.heap_text.specs.declared.sums.Sums.{Sums}
use Rattle.heap_text.specs.declared.past.Past.{Past}
use Rattle.heap_text.specs.Text.{sums_of}
use Rattle.heap_text.specs.Lawful.{AreFalling, AreLawful, AreLow, HasSlot, IsLawfulLine, MayFollow}
use Rattle.heap_text.specs.Past.{Allows, IsLeastInUse, IsPast, added}
use Rattle.heap_text.proofs.Parts.{same_sums}

-- ---- one line

-- what the slot must be
slot_of : (line : HeapLine) (slot : ℕ) → 1 ≤ line.all_objects → HasSlot line slot → line.all_bytes / line.all_objects ≡ slot
slot_of line slot some has =
    let e : line.all_bytes ≡ slot * line.all_objects + 0 = has.all_bytes ∙ turn line.all_objects slot in
    ap (λ (n : ℕ). n / line.all_objects) e ∙ div-mul-add slot line.all_objects 0 some
  where
    turn : (a b : ℕ) → a * b ≡ b * a + 0
    turn a b = grind arith

equal : (a b : ℕ) → true ≡ nat_eq a b → a ≡ b
equal a b test = elim (cases_eq a b) [ inl same ↦ same | inr ne ↦ (let off : eqb a b ≡ false = ne_eqb a b ne in let clash : true ≡ false = test ∙ off in absurd cc) ]

pub lawful_test : (line : HeapLine) (slot : ℕ) → 1 ≤ line.all_objects → line.objects ≤ line.all_objects → line.stack < 2 ^ 32 → slot ≡ line.all_bytes / line.all_objects → 1 ≤ slot → line.all_bytes ≡ line.all_objects * slot
    → (b : Bool) → b ≡ nat_eq line.bytes (line.objects * slot) → MatchBool b (IsLawfulLine line) (¬ IsLawfulLine line)
lawful_test line slot some used stack is high all_bytes true test =
    record { some = some; used = used; slot = (slot, record { some = high; bytes = equal line.bytes (line.objects * slot) test; all_bytes = all_bytes }); stack = stack }
lawful_test line slot some used stack is high all_bytes false test = λ lawful.
    let has = lawful.slot.1 in
    let same : slot ≡ lawful.slot.0 = is ∙ slot_of line lawful.slot.0 some has in
    let bytes : line.bytes ≡ line.objects * slot = has.bytes ∙ ap (λ (n : ℕ). line.objects * n) (sym same) in
    let on : eqb line.bytes (line.objects * slot) ≡ true = eq-eqb line.bytes (line.objects * slot) bytes in
    let clash : false ≡ true = test ∙ on in
    absurd cc

pub no_slot : (line : HeapLine) (slot : ℕ) → 1 ≤ line.all_objects → slot ≡ line.all_bytes / line.all_objects → (slot ≡ 0) ⊎ (line.all_bytes ≡ line.all_objects * slot → ⊥) → ¬ IsLawfulLine line
no_slot line slot some is wrong lawful =
    let has = lawful.slot.1 in
    let same : slot ≡ lawful.slot.0 = is ∙ slot_of line lawful.slot.0 some has in
    elim wrong [
      | inl none ↦ (let high = has.some in absurd (omega arith))
      | inr other ↦ other (has.all_bytes ∙ ap (λ (n : ℕ). line.all_objects * n) (sym same))
    ]

-- ---- lines behind one another

all_map : {X : Type 0} (P Q : X → Type 0) (xs : List X) → ((x : X) → P x → Q x) → AllByRecursion P xs → AllByRecursion Q xs
all_map P Q [] f all = tt
all_map P Q (x ∷ xs) f all = (f x all.0, all_map P Q xs f all.1)

all_last : {X : Type 0} (P : X → Type 0) (xs : List X) (y : X) → AllByRecursion P (xs ++ y ∷ []) → AllByRecursion P xs × P y
all_last P [] y all = (tt, all.0)
all_last P (x ∷ xs) y all = let rest = all_last P xs y all.1 in ((all.0, rest.0), rest.1)

all_in : {X : Type 0} (P : X → Type 0) (xs : List X) (x : X) → AllByRecursion P xs → In x xs → P x
all_in P [] x all i = absurd i
all_in P (y ∷ xs) x all i = elim i [ inl here ↦ subst P here all.0 | inr there ↦ all_in P xs x all.1 there ]

in_all : {X : Type 0} (P : X → Type 0) (xs : List X) → ((x : X) → In x xs → P x) → AllByRecursion P xs
in_all P [] each = tt
in_all P (x ∷ xs) each = (each x (inl refl), in_all P xs (λ y i. each y (inr i)))

in_more : {X : Type 0} (x y : X) (xs : List X) → In x (xs ++ y ∷ []) → In x xs ⊎ (y ≡ x)
in_more x y [] i = elim i [ inl same ↦ inr same | inr none ↦ absurd none ]
in_more x y (z ∷ zs) i = elim i [ inl same ↦ inl (inl same) | inr more ↦ elim (in_more x y zs more) [ inl here ↦ inl (inr here) | inr last ↦ inr last ] ]

in_last : {X : Type 0} (y : X) (xs : List X) → In y (xs ++ y ∷ [])
in_last y [] = inl refl
in_last y (z ∷ zs) = inr (in_last y zs)

in_front : {X : Type 0} (x y : X) (xs : List X) → In x xs → In x (xs ++ y ∷ [])
in_front x y [] i = absurd i
in_front x y (z ∷ zs) i = elim i [ inl here ↦ inl here | inr there ↦ inr (in_front x y zs there) ]

falling_more : (lines : List HeapLine) (line : HeapLine) → AreFalling lines → AllByRecursion (λ (x : HeapLine). line.bytes ≤ x.bytes) lines → AreFalling (lines ++ line ∷ [])
falling_more [] line falling below = ((λ y none. absurd none), tt)
falling_more (x ∷ lines) line falling below =
    ((λ y i. elim (in_more y line lines i) [ inl here ↦ falling.0 y here | inr last ↦ subst (λ (z : HeapLine). z.bytes ≤ x.bytes) last below.0 ]), falling_more lines line falling.1 below.1)

falling_front : (lines : List HeapLine) (line : HeapLine) → AreFalling (lines ++ line ∷ []) → AreFalling lines × AllByRecursion (λ (x : HeapLine). line.bytes ≤ x.bytes) lines
falling_front [] line falling = (tt, tt)
falling_front (x ∷ lines) line falling =
    let rest = falling_front lines line falling.1 in
    (((λ y i. falling.0 y (in_front y line lines i)), rest.0), (falling.0 line (in_last line lines), rest.1))

pub sums_more : (lines : List HeapLine) (line : HeapLine) → sums_of (lines ++ line ∷ []) ≡ added (sums_of lines) line
sums_more lines line = same_sums (sums_of (lines ++ line ∷ [])) (added (sums_of lines) line)
    (sum_by_push (λ (x : HeapLine). x.objects) lines line) (sum_by_push (λ (x : HeapLine). x.bytes) lines line)
    (sum_by_push (λ (x : HeapLine). x.all_objects) lines line) (sum_by_push (λ (x : HeapLine). x.all_bytes) lines line)

pub no_past : (past : Past) → past.sums ≡ sums_of [] → past.least ≡ 2 ^ 64 - 1 → IsPast [] past
no_past past sums least = record { sums = sums; least = record { below = tt; highest = λ b small all. omega arith } }

pub past_more : (lines : List HeapLine) (past new : Past) (line : HeapLine) → Allows past line → new.sums ≡ added past.sums line → new.least ≡ line.bytes → IsPast lines past → IsPast (lines ++ line ∷ []) new
past_more lines past new line allows sums least is = record {
  sums = sums ∙ ap (λ (s : Sums). added s line) is.sums ∙ sym (sums_more lines line);
  least = record {
    below = subst (λ (n : ℕ). AllByRecursion (λ (x : HeapLine). n ≤ x.bytes) (lines ++ line ∷ [])) (sym least)
        (AllByRecursion-push (λ (x : HeapLine). line.bytes ≤ x.bytes) lines line
        (all_map (λ (x : HeapLine). past.least ≤ x.bytes) (λ (x : HeapLine). line.bytes ≤ x.bytes) lines (λ x le. (let low = allows.least in omega arith)) is.least.below) (omega arith));
    highest = λ b small all. (let last = (all_last (λ (x : HeapLine). b ≤ x.bytes) lines line all).1 in omega arith);
  };
}

-- what may stand behind lines by what they leave, and the other way round
pub allowed_follows : (lines : List HeapLine) (past : Past) (line : HeapLine) → IsPast lines past → AreLawful lines → Allows past line → MayFollow lines line
allowed_follows lines past line is lawful allows = record {
  each = AllByRecursion-push IsLawfulLine lines line lawful.each allows.lawful;
  order = falling_more lines line lawful.order
      (all_map (λ (x : HeapLine). past.least ≤ x.bytes) (λ (x : HeapLine). line.bytes ≤ x.bytes) lines (λ x le. (let low = allows.least in omega arith)) is.least.below);
  sums = subst AreLow (ap (λ (s : Sums). added s line) is.sums ∙ sym (sums_more lines line)) allows.low;
}

pub follows_allowed : (lines : List HeapLine) (past : Past) (line : HeapLine) → IsPast lines past → MayFollow lines line → Allows past line
follows_allowed lines past line is may =
    let low : AreLow (added past.sums line) = subst AreLow (sums_more lines line ∙ ap (λ (s : Sums). added s line) (sym is.sums)) may.sums in
    let bytes = low.bytes in
    record {
      lawful = (all_last IsLawfulLine lines line may.each).1;
      least = is.least.highest line.bytes (omega arith) (falling_front lines line may.order).1;
      low = low;
    }

-- a front of lawful lines is lawful
all_front : {X : Type 0} (P : X → Type 0) (xs ys : List X) → AllByRecursion P (xs ++ ys) → AllByRecursion P xs
all_front P [] ys all = tt
all_front P (x ∷ xs) ys all = (all.0, all_front P xs ys all.1)

in_append : {X : Type 0} (x : X) (xs ys : List X) → In x xs → In x (xs ++ ys)
in_append x [] ys i = absurd i
in_append x (z ∷ zs) ys i = elim i [ inl here ↦ inl here | inr there ↦ inr (in_append x zs ys there) ]

falling_append : (xs ys : List HeapLine) → AreFalling (xs ++ ys) → AreFalling xs
falling_append [] ys falling = tt
falling_append (x ∷ xs) ys falling = ((λ y i. falling.0 y (in_append y xs ys i)), falling_append xs ys falling.1)

pub lawful_front : (xs ys : List HeapLine) → AreLawful (xs ++ ys) → AreLawful xs
lawful_front xs ys lawful =
    let o = lawful.sums.objects in
    let b = lawful.sums.bytes in
    let p = lawful.sums.all_objects in
    let q = lawful.sums.all_bytes in
    let eo = sum_by-append (λ (x : HeapLine). x.objects) xs ys in
    let eb = sum_by-append (λ (x : HeapLine). x.bytes) xs ys in
    let ep = sum_by-append (λ (x : HeapLine). x.all_objects) xs ys in
    let eq = sum_by-append (λ (x : HeapLine). x.all_bytes) xs ys in
    record {
      each = all_front IsLawfulLine xs ys lawful.each;
      order = falling_append xs ys lawful.order;
      sums = record { objects = omega arith; bytes = omega arith; all_objects = omega arith; all_bytes = omega arith };
    }

-- the numbers of each line are at most the sums
pub record Fits (line : HeapLine) : Type 0 where
  pub objects : line.objects < 2 ^ 63
  pub bytes : line.bytes < 2 ^ 63
  pub all_objects : line.all_objects < 2 ^ 63
  pub all_bytes : line.all_bytes < 2 ^ 63
  pub stack : line.stack < 2 ^ 32

fits : (lines : List HeapLine) → AllByRecursion IsLawfulLine lines → AreLow (sums_of lines) → AllByRecursion Fits lines
fits [] each low = tt
fits (x ∷ xs) each low =
    let o = low.objects in
    let b = low.bytes in
    let p = low.all_objects in
    let q = low.all_bytes in
    let eo = sum_by-cons (λ (y : HeapLine). y.objects) x xs in
    let eb = sum_by-cons (λ (y : HeapLine). y.bytes) x xs in
    let ep = sum_by-cons (λ (y : HeapLine). y.all_objects) x xs in
    let eq = sum_by-cons (λ (y : HeapLine). y.all_bytes) x xs in (
      record { objects = omega arith; bytes = omega arith; all_objects = omega arith; all_bytes = omega arith; stack = each.0.stack },
      fits xs each.1 (record { objects = omega arith; bytes = omega arith; all_objects = omega arith; all_bytes = omega arith }),
    )

pub lawful_fits : (lines : List HeapLine) → AreLawful lines → AllByRecursion Fits lines
lawful_fits lines lawful = fits lines lawful.each lawful.sums

pub none_lawful : AreLawful []
none_lawful = record { each = tt; order = tt; sums = record { objects = omega arith; bytes = omega arith; all_objects = omega arith; all_bytes = omega arith } }
