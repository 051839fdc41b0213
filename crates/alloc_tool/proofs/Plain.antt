-- Each way in which a call that needs no runtime ends.
use Rattle.std.proofs.Common.{◌≡◌, ◌≢◌, ℕ, List, [], ◌∷◌, Option, String, codes, inl, inr, refl, sym, ◌∙◌, subst}
use Rattle.std.specs.declared.alloc.Global.{Global}
use Rattle.edge_io.specs.Causes.{Rose}
use Rattle.edge_io.specs.Front.{AppendsFront}
use Rattle.commands.specs.Classes.{classes_text}
use Rattle.commands.specs.Asks.{made_text}
use Rattle.commands.specs.Heaped.{Heaped}
use Rattle.alloc_tool.specs.Checked.{Checked}
use Rattle.alloc_tool.specs.Plain.{Plain, Writes}
use Rattle.commands.specs.Texts.{status_text, usage, write_fault}
use Rattle.commands.specs.Told.{Tells}
use Rattle.alloc_tool.specs.Words.{IsCheck, IsClasses, IsGen, IsHeap}
use Rattle.alloc_tool.proofs.Asked.{one_seeded}

clash : (s k l : ℕ) → (k ≡ l → ⊥) → s ≡ k → s ≡ l → ⊥
clash s k l apart e f = apart (sym e ∙ f)

-- a write failed
pub failed_writes : {K E : Type 0} (held : K → Option (List ℕ)) (writes : K → ℕ) (shown : E → Option (List ℕ)) (tells : E → ℕ) (written : List ℕ) (output output' : K) (errors errors' : E) (status : ℕ)
    → status ≡ 6 → Rose (writes output) (writes output') → AppendsFront (held output) (held output') written → Tells shown tells errors errors' write_fault
    → Writes held writes shown tells written output output' errors errors' status
failed_writes held writes shown tells written output output' errors errors' status six rose front told = record {
  ends = inr (inl six);
  answered = λ zero. absurd (clash status 6 0 (λ e. cc) six zero);
  silent = λ zero. absurd (clash status 6 0 (λ e. cc) six zero);
  write_fault = λ _. rose;
  partly_written = λ _. front;
  unwritten = λ seven. absurd (clash status 6 7 (λ e. cc) six seven);
  told = λ _. subst (λ (k : ℕ). Tells shown tells errors errors' (status_text k)) (sym six) told;
  complete = λ written. absurd (written rose);
}

-- memory ran out
pub spent_writes : {K E : Type 0} (held : K → Option (List ℕ)) (writes : K → ℕ) (shown : E → Option (List ℕ)) (tells : E → ℕ) (written : List ℕ) (output output' : K) (errors errors' : E) (status : ℕ)
    → status ≡ 7 → output' ≡ output → Tells shown tells errors errors' (codes "goheap: out of memory") → Writes held writes shown tells written output output' errors errors' status
spent_writes held writes shown tells written output output' errors errors' status seven same told = record {
  ends = inr (inr seven);
  answered = λ zero. absurd (clash status 7 0 (λ e. cc) seven zero);
  silent = λ zero. absurd (clash status 7 0 (λ e. cc) seven zero);
  write_fault = λ six. absurd (clash status 7 6 (λ e. cc) seven six);
  partly_written = λ six. absurd (clash status 7 6 (λ e. cc) seven six);
  unwritten = λ _. same;
  told = λ _. subst (λ (k : ℕ). Tells shown tells errors errors' (status_text k)) (sym seven) told;
  complete = λ _. inr seven;
}

-- one word is not three
lengths : (a x y z : List ℕ) → a ∷ [] ≡ x ∷ y ∷ z ∷ [] → ⊥
lengths a x y z e = cc

check_or_gen : (words : List (String Global)) (seed objects : ℕ) → IsCheck words → IsGen words seed objects → ⊥
check_or_gen words seed objects is made = lengths _ _ _ _ (sym is ∙ made.spelled)

-- one word isn't the other
pub classes_or_check : (words : List (String Global)) → IsClasses words → IsCheck words → ⊥
classes_or_check words is other = (let e : codes "classes" ∷ [] ≡ codes "check" ∷ [] = sym is ∙ other in cc)

classes_or_gen : (words : List (String Global)) (seed objects : ℕ) → IsClasses words → IsGen words seed objects → ⊥
classes_or_gen words seed objects is made = lengths _ _ _ _ (sym is ∙ made.spelled)

heap_or_gen : (words : List (String Global)) (seed objects : ℕ) → IsHeap words → IsGen words seed objects → ⊥
heap_or_gen words seed objects is made = lengths _ _ _ _ (sym is ∙ made.spelled)

pub classes_or_heap : (words : List (String Global)) → IsClasses words → IsHeap words → ⊥
classes_or_heap words is other = (let e : codes "classes" ∷ [] ≡ codes "heap" ∷ [] = sym is ∙ other in cc)

pub check_or_heap : (words : List (String Global)) → IsCheck words → IsHeap words → ⊥
check_or_heap words is other = (let e : codes "check" ∷ [] ≡ codes "heap" ∷ [] = sym is ∙ other in cc)

-- the word `classes`
pub classes_plain : {S K E : Type 0} (left : S → Option (List ℕ)) (reads : S → ℕ) (held : K → Option (List ℕ)) (writes : K → ℕ) (shown : E → Option (List ℕ)) (tells : E → ℕ) (words : List (String Global)) (input : S) (output output' : K) (errors errors' : E) (status : ℕ)
    → IsClasses words → Writes held writes shown tells classes_text output output' errors errors' status → status ≢ 7 → Plain left reads held writes shown tells words input input output output' errors errors' status
classes_plain left reads held writes shown tells words input output output' errors errors' status is written memory = record {
  classes = λ _. written;
  no_memory = λ _. memory;
  made = λ seed objects made. absurd (classes_or_gen words seed objects is made);
  check = λ other. absurd (classes_or_check words is other);
  heap = λ other. absurd (classes_or_heap words is other);
  others = λ other _ _ _. absurd (other is);
  unread = λ _ _. refl;
}

-- the word `gen`
pub gen_plain : {S K E : Type 0} (left : S → Option (List ℕ)) (reads : S → ℕ) (held : K → Option (List ℕ)) (writes : K → ℕ) (shown : E → Option (List ℕ)) (tells : E → ℕ) (words : List (String Global)) (input : S) (output output' : K) (errors errors' : E) (status seed objects : ℕ)
    → IsGen words seed objects → Writes held writes shown tells (made_text seed objects) output output' errors errors' status → Plain left reads held writes shown tells words input input output output' errors errors' status
gen_plain left reads held writes shown tells words input output output' errors errors' status seed objects is written = record {
  classes = λ classes. absurd (classes_or_gen words seed objects classes is);
  no_memory = λ classes. absurd (classes_or_gen words seed objects classes is);
  made = λ s o made.
      let same = one_seeded (codes "gen") words seed objects s o is made in
      subst (λ (k : ℕ). Writes held writes shown tells (made_text k o) output output' errors errors' status) same.0
      (subst (λ (k : ℕ). Writes held writes shown tells (made_text seed k) output output' errors errors' status) same.1 written);
  check = λ other. absurd (check_or_gen words seed objects other is);
  heap = λ other. absurd (heap_or_gen words seed objects other is);
  others = λ _ _ _ other. absurd (other seed objects is);
  unread = λ _ _. refl;
}

-- other words
pub usage_plain : {S K E : Type 0} (left : S → Option (List ℕ)) (reads : S → ℕ) (held : K → Option (List ℕ)) (writes : K → ℕ) (shown : E → Option (List ℕ)) (tells : E → ℕ) (words : List (String Global)) (input : S) (output : K) (errors errors' : E) (status : ℕ)
    → (IsClasses words → ⊥) → (IsCheck words → ⊥) → (IsHeap words → ⊥) → ((seed objects : ℕ) → IsGen words seed objects → ⊥) → status ≡ 2 → Tells shown tells errors errors' usage → Plain left reads held writes shown tells words input input output output errors errors' status
usage_plain left reads held writes shown tells words input output errors errors' status no_classes no_check no_heap no_gen is told = record {
  classes = λ classes. absurd (no_classes classes);
  no_memory = λ classes. absurd (no_classes classes);
  made = λ seed objects made. absurd (no_gen seed objects made);
  check = λ check. absurd (no_check check);
  heap = λ heap. absurd (no_heap heap);
  others = λ _ _ _ _. record { refused = is; unwritten = refl; told = told };
  unread = λ _ _. refl;
}

-- the word `check`
pub check_plain : {S K E : Type 0} (left : S → Option (List ℕ)) (reads : S → ℕ) (held : K → Option (List ℕ)) (writes : K → ℕ) (shown : E → Option (List ℕ)) (tells : E → ℕ) (words : List (String Global)) (input input' : S) (output output' : K) (errors errors' : E) (status : ℕ)
    → IsCheck words → Checked left reads held writes shown tells input input' output output' errors errors' status → Plain left reads held writes shown tells words input input' output output' errors errors' status
check_plain left reads held writes shown tells words input input' output output' errors errors' status is checked = record {
  classes = λ classes. absurd (classes_or_check words classes is);
  no_memory = λ classes. absurd (classes_or_check words classes is);
  made = λ seed objects made. absurd (check_or_gen words seed objects is made);
  check = λ _. checked;
  heap = λ heap. absurd (check_or_heap words is heap);
  others = λ _ other _ _. absurd (other is);
  unread = λ other _. absurd (other is);
}

-- the word `heap`
pub heap_plain : {S K E : Type 0} (left : S → Option (List ℕ)) (reads : S → ℕ) (held : K → Option (List ℕ)) (writes : K → ℕ) (shown : E → Option (List ℕ)) (tells : E → ℕ) (words : List (String Global)) (input input' : S) (output output' : K) (errors errors' : E) (status : ℕ)
    → IsHeap words → Heaped left reads held writes shown tells input input' output output' errors errors' status → Plain left reads held writes shown tells words input input' output output' errors errors' status
heap_plain left reads held writes shown tells words input input' output output' errors errors' status is heaped = record {
  classes = λ classes. absurd (classes_or_heap words classes is);
  no_memory = λ classes. absurd (classes_or_heap words classes is);
  made = λ seed objects made. absurd (heap_or_gen words seed objects is made);
  check = λ check. absurd (check_or_heap words check is);
  heap = λ _. heaped;
  others = λ _ _ other _. absurd (other is);
  unread = λ _ other. absurd (other is);
}
