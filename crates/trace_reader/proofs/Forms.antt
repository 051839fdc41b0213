-- What is left of a line behind each of its fields.
use Rattle.std.proofs.Common.{◌≡◌, ◌==◌, ◌∙◌, subst, length, ℕ, ◌^◌, ◌<◌, Bool, true, false, List, [], ◌∷◌, ◌++◌, ap, append_assoc, codes, decimal, drop, take, sym, inl, arith}
use Rattle.trace_reader.specs.declared.statement.HeapForm.{HeapForm}
use Rattle.trace_reader.specs.declared.statement.AllocForm.{AllocForm}
use Rattle.trace_reader.specs.declared.statement.Statement.TheVariants.{Title, Heap, Alloc, Gc, Mark}
use Rattle.trace_reader.specs.Spelling.{kind, line_for}
use Rattle.trace_reader.specs.Words.{IsField, NoDigitFirst}
use Rattle.trace_reader.specs.Says.{Says}
use Rattle.trace_reader.proofs.Digits.{line_before, one_field}

-- the rest behind a field is what the text and the number leave
behind : (text bytes : List ℕ) (n : ℕ) (rest : List ℕ) → IsField text bytes n rest → (m : ℕ) (q : List ℕ) → bytes ≡ text ++ (decimal m ++ q) → m < 10 ^ 20 → NoDigitFirst q → rest ≡ q
behind text bytes n rest field m q e small ended = sym (one_field text bytes n m rest q field (record { spelled = e; small = small; ended = ended })).1

kind_ends : (scan : Bool) (bytes : List ℕ) → NoDigitFirst (kind scan ++ bytes)
kind_ends true bytes = inl (omega arith)
kind_ends false bytes = inl (omega arith)

behind_kind : (scan other : Bool) (rest q : List ℕ) → kind scan ++ rest ≡ kind other ++ q → rest ≡ q
behind_kind true true rest q e = cc
behind_kind true false rest q e = cc
behind_kind false true rest q e = cc
behind_kind false false rest q e = cc

-- an `a` line

alloc_1 : (line r1 : List ℕ) (p : ℕ) → IsField (codes "a ") line p r1 → (form : AllocForm) → Says line (Alloc form)
    → r1 ≡ codes " " ++ (decimal form.size ++ (kind form.scan ++ (decimal form.stack ++ [])))
alloc_1 line r1 p f1 form says = behind (codes "a ") line p r1 f1 form.proc _ says.0 says.1.0 (inl (omega arith))

pub alloc_size : (line r1 : List ℕ) (p : ℕ) → IsField (codes "a ") line p r1 → ((n : ℕ) (rest : List ℕ) → ¬ IsField (codes " ") r1 n rest) → (form : AllocForm) → ¬ Says line (Alloc form)
alloc_size line r1 p f1 none form says = none form.size _ (record { spelled = alloc_1 line r1 p f1 form says; small = says.1.1.0; ended = kind_ends form.scan _ })

alloc_2 : (line r1 r2 : List ℕ) (p s : ℕ) → IsField (codes "a ") line p r1 → IsField (codes " ") r1 s r2 → (form : AllocForm) → Says line (Alloc form)
    → r2 ≡ kind form.scan ++ (decimal form.stack ++ [])
alloc_2 line r1 r2 p s f1 f2 form says = behind (codes " ") r1 s r2 f2 form.size _ (alloc_1 line r1 p f1 form says) says.1.1.0 (kind_ends form.scan _)

pub alloc_kind : (line r1 r2 : List ℕ) (p s : ℕ) → IsField (codes "a ") line p r1 → IsField (codes " ") r1 s r2
    → ((scan : Bool) (rest : List ℕ) → r2 ≡ kind scan ++ rest → ⊥) → (form : AllocForm) → ¬ Says line (Alloc form)
alloc_kind line r1 r2 p s f1 f2 none form says = none form.scan _ (alloc_2 line r1 r2 p s f1 f2 form says)

alloc_3 : (line r1 r2 r3 : List ℕ) (p s : ℕ) (k : Bool) → IsField (codes "a ") line p r1 → IsField (codes " ") r1 s r2 → r2 ≡ kind k ++ r3 → (form : AllocForm) → Says line (Alloc form)
    → r3 ≡ decimal form.stack ++ []
alloc_3 line r1 r2 r3 p s k f1 f2 f3 form says = behind_kind k form.scan r3 _ (sym f3 ∙ alloc_2 line r1 r2 p s f1 f2 form says)

pub alloc_stack : (line r1 r2 r3 : List ℕ) (p s : ℕ) (k : Bool) → IsField (codes "a ") line p r1 → IsField (codes " ") r1 s r2 → r2 ≡ kind k ++ r3
    → ((n : ℕ) (rest : List ℕ) → ¬ IsField [] r3 n rest) → (form : AllocForm) → ¬ Says line (Alloc form)
alloc_stack line r1 r2 r3 p s k f1 f2 f3 none form says = none form.stack [] (record { spelled = alloc_3 line r1 r2 r3 p s k f1 f2 f3 form says; small = says.1.1.1.0; ended = tt })

pub alloc_end : (line r1 r2 r3 r4 : List ℕ) (p s t : ℕ) (k : Bool) → IsField (codes "a ") line p r1 → IsField (codes " ") r1 s r2 → r2 ≡ kind k ++ r3
    → IsField [] r3 t r4 → (r4 ≡ [] → ⊥) → (form : AllocForm) → ¬ Says line (Alloc form)
alloc_end line r1 r2 r3 r4 p s t k f1 f2 f3 f4 none form says = none (behind [] r3 t r4 f4 form.stack [] (alloc_3 line r1 r2 r3 p s k f1 f2 f3 form says) says.1.1.1.0 tt)

-- the first line

pub title_end : (line r1 : List ℕ) (v : ℕ) → IsField (codes "goheap ") line v r1 → (r1 ≡ [] → ⊥) → (version : ℕ) → ¬ Says line (Title version)
title_end line r1 v f1 none version says = none (behind (codes "goheap ") line v r1 f1 version [] says.0 says.1.0 tt)

-- a `gc` line

pub gc_end : (line r1 : List ℕ) (d : ℕ) → IsField (codes "gc ") line d r1 → (r1 ≡ [] → ⊥) → (distance : ℕ) → ¬ Says line (Gc distance)
gc_end line r1 d f1 none distance says = none (behind (codes "gc ") line d r1 f1 distance [] says.0 says.1.0 tt)

-- an `m` line

mark_1 : (line r1 : List ℕ) (l : ℕ) → IsField (codes "m ") line l r1 → (lo hi : ℕ) → Says line (Mark lo hi) → r1 ≡ codes " " ++ (decimal hi ++ [])
mark_1 line r1 l f1 lo hi says = behind (codes "m ") line l r1 f1 lo _ says.0 says.1.0 (inl (omega arith))

pub mark_hi : (line r1 : List ℕ) (l : ℕ) → IsField (codes "m ") line l r1 → ((n : ℕ) (rest : List ℕ) → ¬ IsField (codes " ") r1 n rest) → (lo hi : ℕ) → ¬ Says line (Mark lo hi)
mark_hi line r1 l f1 none lo hi says = none hi [] (record { spelled = mark_1 line r1 l f1 lo hi says; small = says.1.1.0; ended = tt })

pub mark_end : (line r1 r2 : List ℕ) (l h : ℕ) → IsField (codes "m ") line l r1 → IsField (codes " ") r1 h r2 → (r2 ≡ [] → ⊥) → (lo hi : ℕ) → ¬ Says line (Mark lo hi)
mark_end line r1 r2 l h f1 f2 none lo hi says = none (behind (codes " ") r1 h r2 f2 hi [] (mark_1 line r1 l f1 lo hi says) says.1.1.0 tt)

-- a `heap` line

heap_1 : (line r1 : List ℕ) (c : ℕ) → IsField (codes "heap ") line c r1 → (h : HeapForm) → Says line (Heap h)
    → r1 ≡ codes " procs " ++ (decimal h.procs ++ (codes " rate " ++ (decimal h.rate ++ (codes " seed " ++ (decimal h.seed ++ (codes " goal " ++ (decimal h.goal ++ [])))))))
heap_1 line r1 c f1 h says = behind (codes "heap ") line c r1 f1 h.chunks _ says.0 says.1.0 (inl (omega arith))

pub heap_procs : (line r1 : List ℕ) (c : ℕ) → IsField (codes "heap ") line c r1 → ((n : ℕ) (rest : List ℕ) → ¬ IsField (codes " procs ") r1 n rest) → (h : HeapForm) → ¬ Says line (Heap h)
heap_procs line r1 c f1 none h says = none h.procs _ (record { spelled = heap_1 line r1 c f1 h says; small = says.1.1.0; ended = inl (omega arith) })

heap_2 : (line r1 r2 : List ℕ) (c p : ℕ) → IsField (codes "heap ") line c r1 → IsField (codes " procs ") r1 p r2 → (h : HeapForm) → Says line (Heap h)
    → r2 ≡ codes " rate " ++ (decimal h.rate ++ (codes " seed " ++ (decimal h.seed ++ (codes " goal " ++ (decimal h.goal ++ [])))))
heap_2 line r1 r2 c p f1 f2 h says = behind (codes " procs ") r1 p r2 f2 h.procs _ (heap_1 line r1 c f1 h says) says.1.1.0 (inl (omega arith))

pub heap_rate : (line r1 r2 : List ℕ) (c p : ℕ) → IsField (codes "heap ") line c r1 → IsField (codes " procs ") r1 p r2 → ((n : ℕ) (rest : List ℕ) → ¬ IsField (codes " rate ") r2 n rest) → (h : HeapForm) → ¬ Says line (Heap h)
heap_rate line r1 r2 c p f1 f2 none h says = none h.rate _ (record { spelled = heap_2 line r1 r2 c p f1 f2 h says; small = says.1.1.1.0; ended = inl (omega arith) })

heap_3 : (line r1 r2 r3 : List ℕ) (c p r : ℕ) → IsField (codes "heap ") line c r1 → IsField (codes " procs ") r1 p r2 → IsField (codes " rate ") r2 r r3 → (h : HeapForm) → Says line (Heap h)
    → r3 ≡ codes " seed " ++ (decimal h.seed ++ (codes " goal " ++ (decimal h.goal ++ [])))
heap_3 line r1 r2 r3 c p r f1 f2 f3 h says = behind (codes " rate ") r2 r r3 f3 h.rate _ (heap_2 line r1 r2 c p f1 f2 h says) says.1.1.1.0 (inl (omega arith))

pub heap_seed : (line r1 r2 r3 : List ℕ) (c p r : ℕ) → IsField (codes "heap ") line c r1 → IsField (codes " procs ") r1 p r2 → IsField (codes " rate ") r2 r r3 → ((n : ℕ) (rest : List ℕ) → ¬ IsField (codes " seed ") r3 n rest) → (h : HeapForm) → ¬ Says line (Heap h)
heap_seed line r1 r2 r3 c p r f1 f2 f3 none h says = none h.seed _ (record { spelled = heap_3 line r1 r2 r3 c p r f1 f2 f3 h says; small = says.1.1.1.1.0; ended = inl (omega arith) })

heap_4 : (line r1 r2 r3 r4 : List ℕ) (c p r s : ℕ) → IsField (codes "heap ") line c r1 → IsField (codes " procs ") r1 p r2 → IsField (codes " rate ") r2 r r3 → IsField (codes " seed ") r3 s r4 → (h : HeapForm) → Says line (Heap h)
    → r4 ≡ codes " goal " ++ (decimal h.goal ++ [])
heap_4 line r1 r2 r3 r4 c p r s f1 f2 f3 f4 h says = behind (codes " seed ") r3 s r4 f4 h.seed _ (heap_3 line r1 r2 r3 c p r f1 f2 f3 h says) says.1.1.1.1.0 (inl (omega arith))

pub heap_goal : (line r1 r2 r3 r4 : List ℕ) (c p r s : ℕ) → IsField (codes "heap ") line c r1 → IsField (codes " procs ") r1 p r2 → IsField (codes " rate ") r2 r r3 → IsField (codes " seed ") r3 s r4
    → ((n : ℕ) (rest : List ℕ) → ¬ IsField (codes " goal ") r4 n rest) → (h : HeapForm) → ¬ Says line (Heap h)
heap_goal line r1 r2 r3 r4 c p r s f1 f2 f3 f4 none h says = none h.goal [] (record { spelled = heap_4 line r1 r2 r3 r4 c p r s f1 f2 f3 f4 h says; small = says.1.1.1.1.1.0; ended = tt })

pub heap_end : (line r1 r2 r3 r4 r5 : List ℕ) (c p r s g : ℕ) → IsField (codes "heap ") line c r1 → IsField (codes " procs ") r1 p r2 → IsField (codes " rate ") r2 r r3 → IsField (codes " seed ") r3 s r4
    → IsField (codes " goal ") r4 g r5 → (r5 ≡ [] → ⊥) → (h : HeapForm) → ¬ Says line (Heap h)
heap_end line r1 r2 r3 r4 r5 c p r s g f1 f2 f3 f4 f5 none h says = none (behind (codes " goal ") r4 g r5 f5 h.goal [] (heap_4 line r1 r2 r3 r4 c p r s f1 f2 f3 f4 h says) says.1.1.1.1.1.0 tt)

-- what is not empty is not []
pub not_empty : (bytes : List ℕ) → (length bytes == 0) ≡ false → bytes ≡ [] → ⊥
not_empty bytes test e = (let some : (length {A = ℕ} [] == 0) ≡ false = subst (λ (b : List ℕ). (length b == 0) ≡ false) e test in absurd cc)

-- a line that is read by places, up to its line feed

pub mark_before : (bytes : List ℕ) (end a b at lo hi : ℕ) → bytes ≡ 109 ∷ 32 ∷ drop 2 bytes → drop 2 bytes ≡ decimal lo ++ drop a bytes → drop a bytes ≡ 32 ∷ drop b bytes
    → drop b bytes ≡ decimal hi ++ drop at bytes → at ≡ end → take end bytes ≡ line_for (Mark lo hi)
mark_before bytes end a b at lo hi start low blank high here =
    let whole : bytes ≡ 109 ∷ 32 ∷ (decimal lo ++ 32 ∷ (decimal hi ++ drop at bytes)) =
    start ∙ ap (λ (x : List ℕ). 109 ∷ 32 ∷ x) (low ∙ ap (λ (x : List ℕ). decimal lo ++ x) (blank ∙ ap (λ (x : List ℕ). 32 ∷ x) high)) in
    line_before bytes (line_for (Mark lo hi)) end at here (whole ∙ sym (together (drop at bytes))) where
      together : (rest : List ℕ) → line_for (Mark lo hi) ++ rest ≡ 109 ∷ 32 ∷ (decimal lo ++ 32 ∷ (decimal hi ++ rest))
      together rest = simp append_assoc

pub alloc_before : (bytes : List ℕ) (end a b c d at : ℕ) (e : AllocForm) → bytes ≡ 97 ∷ 32 ∷ drop 2 bytes → drop 2 bytes ≡ decimal e.proc ++ drop a bytes → drop a bytes ≡ 32 ∷ drop b bytes
    → drop b bytes ≡ decimal e.size ++ drop c bytes → drop c bytes ≡ kind e.scan ++ drop d bytes → drop d bytes ≡ decimal e.stack ++ drop at bytes → at ≡ end
    → take end bytes ≡ line_for (Alloc e)
alloc_before bytes end a b c d at e start proc blank size scan stack here =
    let whole : bytes ≡ 97 ∷ 32 ∷ (decimal e.proc ++ 32 ∷ (decimal e.size ++ (kind e.scan ++ (decimal e.stack ++ drop at bytes)))) =
    start ∙ ap (λ (x : List ℕ). 97 ∷ 32 ∷ x) (proc ∙ ap (λ (x : List ℕ). decimal e.proc ++ x) (blank ∙ ap (λ (x : List ℕ). 32 ∷ x)
    (size ∙ ap (λ (x : List ℕ). decimal e.size ++ x) (scan ∙ ap (λ (x : List ℕ). kind e.scan ++ x) stack)))) in
    line_before bytes (line_for (Alloc e)) end at here (whole ∙ sym (together (drop at bytes))) where
      together : (rest : List ℕ) → line_for (Alloc e) ++ rest ≡ 97 ∷ 32 ∷ (decimal e.proc ++ 32 ∷ (decimal e.size ++ (kind e.scan ++ (decimal e.stack ++ rest))))
      together rest = simp append_assoc
