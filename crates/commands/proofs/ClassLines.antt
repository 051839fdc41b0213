-- The lines of the classes, one after another.
use Rattle.std.proofs.Common.{◌≡◌, ℕ, zero, suc, ◌+◌, ◌-◌, ◌≤◌, List, [], ◌∷◌, ◌++◌, Option, codes, sym, ap, ◌∙◌, subst, arith, add-one, append_assoc}
use Rattle.std.specs.List.{concat}
use Rattle.std.specs.Io.KnownBytes.{Appends}
use Rattle.std.proofs.lemmas.List.{append-nil}
use Rattle.edge_io.specs.Front.{AppendsFront, Sends}
use Rattle.edge_io.specs.Puts.{Puts}
use Rattle.edge_io.specs.Text.{text}
use Rattle.edge_io.proofs.Put.{front_nothing, front_then, puts-then, puts_nothing, sent_all, sent_front, text-append, whole_front}
use Rattle.commands.specs.Classes.{class_line, classes_text, lines_to}

pub line_form : (a b c d : List ℕ) → (((((((codes "c " ++ a) ++ codes " ") ++ b) ++ codes " ") ++ c) ++ codes " ") ++ d) ++ 10 ∷ []
    ≡ concat (codes "c " ∷ a ∷ codes " " ∷ b ∷ codes " " ∷ c ∷ codes " " ∷ d ∷ []) ++ 10 ∷ []
line_form a b c d = simp append_assoc

pub no_lines : (a : Option (List ℕ)) (w : List ℕ) → Puts a a w w [] → Puts a a w w (text (lines_to 0))
unfolding lines_to
no_lines a w puts = puts

line_more : (n : ℕ) → text (lines_to (suc n)) ≡ text (lines_to n) ++ (class_line (suc n) ++ 10 ∷ [])
unfolding lines_to
line_more n = text-append (lines_to n) (class_line (suc n) ∷ []) ∙ ap (λ (t : List ℕ). text (lines_to n) ++ t) (append-nil (class_line (suc n) ++ 10 ∷ []))

more_lines : (n : ℕ) → text (lines_to (n + 1)) ≡ text (lines_to n) ++ (class_line (n + 1) ++ 10 ∷ [])
more_lines n = subst (λ (m : ℕ). text (lines_to m) ≡ text (lines_to n) ++ (class_line m ++ 10 ∷ [])) (sym (add-one n)) (line_more n)

-- all lines begin with the first ones
split_lines : (k n : ℕ) → (rest : List ℕ) × (text (lines_to (n + k)) ≡ text (lines_to n) ++ rest)
split_lines zero n = ([], ap (λ (m : ℕ). text (lines_to m)) (omega arith) ∙ sym (append-nil (text (lines_to n))))
split_lines (suc k) n =
    let before = split_lines k n in
    let line = class_line (n + k + 1) ++ 10 ∷ [] in
    (before.0 ++ line, ap (λ (m : ℕ). text (lines_to m)) (omega arith) ∙ more_lines (n + k) ∙ ap (λ (t : List ℕ). t ++ line) before.1 ∙ append_assoc (text (lines_to n)) before.0 line)

pub one_more : (a b c : Option (List ℕ)) (w0 w1 w2 piece : List ℕ) (n : ℕ) → Puts a b w0 w1 (text (lines_to n)) → piece ≡ class_line (n + 1) ++ 10 ∷ [] → Puts b c w1 w2 piece → Puts a c w0 w2 (text (lines_to (n + 1)))
one_more a b c w0 w1 w2 piece n first line then = rw (more_lines n, ← line) (puts-then a b c w0 w1 w2 (text (lines_to n)) piece first then)

the_text : (n : ℕ) → n ≡ 67 → classes_text ≡ text (lines_to n)
unfolding classes_text
the_text n e = ap (λ (m : ℕ). text (lines_to m)) (sym e)

-- a write failed behind the first lines
pub front_at : (a b c : Option (List ℕ)) (w0 w1 w2 : List ℕ) (n : ℕ) → n ≤ 67 → w0 ≡ [] → Puts a b w0 w1 (text (lines_to n)) → Sends b c w2 w1 → AppendsFront a c classes_text
front_at a b c w0 w1 w2 n le none first sends =
    let start : Puts a b [] w1 (text (lines_to n)) = rw none at first in
    let split = split_lines (67 - n) n in
    let all : classes_text ≡ text (lines_to n) ++ split.0 = the_text (n + (67 - n)) (omega arith) ∙ split.1 in
    subst (λ (t : List ℕ). AppendsFront a c t) (sym all) (sent_front a c w2 (text (lines_to n) ++ split.0) (front_then a b c [] w1 w2 (text (lines_to n)) split.0 start (front_nothing b c w1 w2 split.0 sends)))

-- all was put, and what waits is sent
pub all_put : (a b c : Option (List ℕ)) (w0 w1 w2 : List ℕ) (n : ℕ) → n ≡ 67 → w0 ≡ [] → Puts a b w0 w1 (text (lines_to n)) → Sends b c w2 w1 → Puts a c [] w2 classes_text
all_put a b c w0 w1 w2 n end none first sends =
    let start : Puts a b [] w1 (text (lines_to n)) = rw none at first in
    let whole = puts-then a b c [] w1 w2 (text (lines_to n)) [] start (puts_nothing b c w1 w2 sends) in
    let same : text (lines_to n) ++ [] ≡ classes_text = append-nil (text (lines_to n)) ∙ sym (the_text n end) in
    subst (λ (t : List ℕ). Puts a c [] w2 t) same whole

pub all_front : (a c : Option (List ℕ)) (w2 : List ℕ) → Puts a c [] w2 classes_text → AppendsFront a c classes_text
all_front a c w2 puts = sent_front a c w2 classes_text (whole_front a c [] w2 classes_text puts)

pub all_sent : (a c : Option (List ℕ)) (w2 : List ℕ) → Puts a c [] w2 classes_text → w2 ≡ [] → Appends a c classes_text
all_sent a c w2 puts none = sent_all a c w2 classes_text puts none
