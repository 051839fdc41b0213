-- Lines that nothing is wrong with.
use Rattle.std.proofs.Common.{◌≡◌, ◌≢◌, ◌==◌, ℕ, ◌+◌, ◌^◌, ◌<◌, ◌≤◌, Bool, true, false, not, List, [], ◌∷◌, ◌++◌, length, map, codes, decimal, Option, None, nat_le, refl, ap, subst, arith, length-append}
use Rattle.std.specs.List.{AllByRecursion, list_all}
use Rattle.std.specs.Option.{option_map}
use Rattle.std.proofs.lemmas.Fmt.{length-decimal-le_wide}
use Rattle.edge_io.specs.Line.{IsLine}
use Rattle.trace_reader.proofs.Compare.{at_most, below_true}
use Rattle.trace_reader.specs.declared.fault.Which.{Which}
use Rattle.trace_reader.specs.declared.fault.TraceFault.{TraceFault}
use Rattle.trace_reader.specs.declared.fault.TraceFault.TheVariants.{Malformed, Limit, BadMark}
use Rattle.trace_reader.specs.declared.statement.Statement.{Statement}
use Rattle.trace_reader.specs.declared.statement.Statement.TheVariants.{Title, Alloc, Gc, Mark, End}
use Rattle.trace_reader.specs.declared.statement.AllocForm.{AllocForm}
use Rattle.trace_reader.specs.declared.trace.Header.{Header}
use Rattle.trace_reader.specs.declared.trace.Event.{Event}
use Rattle.trace_reader.specs.Words.{IsDigit}
use Rattle.trace_reader.specs.Spelling.{alloc_of, heap_of, kind, line_for}
use Rattle.trace_reader.specs.declared.limits.TheConstants.{LATEST_VERSION}
use Rattle.trace_reader.specs.Limits.{EventFits, HeaderFits, IsVersion, RegionFits, max_chunks, max_pages}
use Rattle.trace_reader.specs.Checks.{bad_mark, counts_within, may_follow, numbers_within, passed, within}
use Rattle.trace_reader.specs.Refusal.{fault_if, first_of, statement_fault}
use Rattle.trace_reader.specs.Good.{AreGood}
use Rattle.trace_reader.proofs.Digits.{digits_decimal}
use Rattle.trace_reader.proofs.Saying.{AllByRecursion-map, Short, both, of_both, said_line}
use Rattle.trace_reader.proofs.Reading.{All-append}

-- Lengths, and no line feed

decimal_short : (k n : ℕ) → 0 < k → n < 10 ^ k → n < 10 ^ 20 → length (decimal n) ≤ k
decimal_short k n some small short = length-decimal-le_wide k n some small (omega arith)

no_feed : (n : ℕ) → n < 10 ^ 20 → AllByRecursion (λ b. b ≢ 10) (decimal n)
no_feed n small = AllByRecursion-map IsDigit (λ b. b ≢ 10) (λ b digit e. omega (arith, digit.0, e)) (decimal n) (digits_decimal n (omega arith))

-- a test of a text
apart_test : (xs : List ℕ) → list_all (λ b. not (b == 10)) xs ≡ true → AllByRecursion (λ b. b ≢ 10) xs
apart_test [] test = tt
apart_test (x ∷ xs) test =
    let parts = of_both (not (x == 10)) (list_all (λ b. not (b == 10)) xs) test in
    (λ e. ten (subst (λ (y : ℕ). not (y == 10) ≡ true) e parts.0), apart_test xs parts.1) where
      ten : false ≡ true → ⊥
      ten e = absurd cc

kind_length : (scan : Bool) → length (kind scan) ≡ 3
kind_length true = refl
kind_length false = refl

kind_apart : (scan : Bool) → AllByRecursion (λ b. b ≢ 10) (kind scan)
kind_apart true = apart_test (codes " s ") refl
kind_apart false = apart_test (codes " n ") refl

-- a text and a number before a rest without line feeds
field_apart : (text rest : List ℕ) (n : ℕ) → list_all (λ b. not (b == 10)) text ≡ true → n < 10 ^ 20 → AllByRecursion (λ b. b ≢ 10) rest → AllByRecursion (λ b. b ≢ 10) (text ++ (decimal n ++ rest))
field_apart text rest n test small all = All-append (λ b. b ≢ 10) text (decimal n ++ rest) (apart_test text test) (All-append (λ b. b ≢ 10) (decimal n) rest (no_feed n small) all)

field_length : (text rest : List ℕ) (n k : ℕ) → 0 < k → n < 10 ^ k → n < 10 ^ 20 → length (text ++ (decimal n ++ rest)) ≤ length text + k + length rest
field_length text rest n k some small short =
    let whole = length-append text (decimal n ++ rest) in
    let tail = length-append (decimal n) rest in
    let digits = decimal_short k n some small short in
    omega arith

pub alloc_is_line : (e : AllocForm) → Short (Alloc e) → IsLine (line_for (Alloc e))
alloc_is_line e short =
    let r3 = decimal e.stack ++ [] in
    let r2 = kind e.scan ++ r3 in
    let r1 = codes " " ++ (decimal e.size ++ r2) in
    let l4 = field_length [] [] e.stack 20 (omega arith) short.1.1.0 short.1.1.0 in
    let l3 = length-append (kind e.scan) r3 in
    let k = kind_length e.scan in
    let l2 = field_length (codes " ") r2 e.size 20 (omega arith) short.1.0 short.1.0 in
    let l1 = field_length (codes "a ") r1 e.proc 20 (omega arith) short.0 short.0 in (
      omega arith,
      field_apart (codes "a ") r1 e.proc refl short.0 (field_apart (codes " ") r2 e.size refl short.1.0
          (All-append (λ b. b ≢ 10) (kind e.scan) r3 (kind_apart e.scan) (field_apart [] [] e.stack refl short.1.1.0 tt))),
    )

heap_is_line : (h : Header) → HeaderFits h → IsLine (line_for (heap_of h))
heap_is_line h fits =
    let chunks = fits.chunks in
    let procs = fits.procs in
    let rate = fits.rate in
    let seed = fits.seed in
    let goal = fits.goal in
    let r4 = codes " goal " ++ (decimal h.goal ++ []) in
    let r3 = codes " seed " ++ (decimal h.seed ++ r4) in
    let r2 = codes " rate " ++ (decimal h.rate ++ r3) in
    let r1 = codes " procs " ++ (decimal h.procs ++ r2) in
    let l5 = field_length (codes " goal ") [] h.goal 7 (omega arith) (omega arith) (omega arith) in
    let l4 = field_length (codes " seed ") r4 h.seed 20 (omega arith) (omega arith) (omega arith) in
    let l3 = field_length (codes " rate ") r3 h.rate 10 (omega arith) (omega arith) (omega arith) in
    let l2 = field_length (codes " procs ") r2 h.procs 2 (omega arith) (omega arith) (omega arith) in
    let l1 = field_length (codes "heap ") r1 h.chunks 4 (omega arith) (omega arith) (omega arith) in (
      omega arith,
      field_apart (codes "heap ") r1 h.chunks refl (omega arith) (field_apart (codes " procs ") r2 h.procs refl (omega arith) (field_apart (codes " rate ") r3 h.rate refl (omega arith)
          (field_apart (codes " seed ") r4 h.seed refl (omega arith) (field_apart (codes " goal ") [] h.goal refl (omega arith) tt)))),
    )

-- No fault

none_of : (a b c d : Option TraceFault) → a ≡ None → b ≡ None → c ≡ None → d ≡ None → first_of (a ∷ b ∷ c ∷ d ∷ []) ≡ None
none_of a b c d p q r s = rw (p, q, r, s) refl

pub fault_none : (past : List Statement) (s : Statement) → may_follow past s ≡ true → passed (numbers_within past s) ≡ None → passed (counts_within past s) ≡ None
    → bad_mark past s ≡ None → (n : ℕ) → statement_fault n past s ≡ None
fault_none past s follows low few live n = none_of _ _ _ _
    (ap (λ (b : Bool). fault_if (not b) (Malformed n)) follows) (ap (λ (o : Option Which). option_map (λ which. Limit n which) o) low)
    (ap (λ (o : Option Which). option_map (λ which. Limit n which) o) few) (ap (λ (o : Option ℕ). option_map (λ i. BadMark n i) o) live)

pub pass : (which : Which) (test : Bool) (rest : List (Which × Bool)) → test ≡ true → passed rest ≡ None → passed ((which, test) ∷ rest) ≡ None
pass which test rest e f = rw e f

pub within_true : (least most n : ℕ) → least ≤ n → n ≤ most → within least most n ≡ true
within_true least most n low high = both (nat_le least n) (nat_le n most) (at_most least n low) (at_most n most high)

-- The first two lines

title_is_line : (version : ℕ) → IsVersion version → IsLine (line_for (Title version))
title_is_line version fits =
    let l1 = field_length (codes "goheap ") [] version 1 (omega arith) (omega arith) (omega arith) in
    (omega arith, field_apart (codes "goheap ") [] version refl (omega arith) tt)

pub title_good : (version : ℕ) → IsVersion version → AreGood [] (Title version ∷ [])
title_good version fits = (
  record {
    is_line = title_is_line version fits;
    says = said_line (Title version) (omega arith, tt);
    not_end = refl;
    no_fault = fault_none [] (Title version) (within_true 1 LATEST_VERSION version fits.0 fits.1) refl refl refl;
  },
  tt,
)

pub header_good : (version : ℕ) (h : Header) → h.version ≡ version → HeaderFits h → RegionFits h → AreGood (Title version ∷ []) (heap_of h ∷ [])
header_good version h same fits region =
    let most_chunks = subst (λ (v : ℕ). h.chunks ≤ max_chunks v) same region.0 in
    let most_pages = subst (λ (v : ℕ). h.goal ≤ max_pages v) same region.1 in
    let chunks = fits.chunks in
    let procs = fits.procs in
    let rate = fits.rate in
    let seed = fits.seed in
    let goal = fits.goal in (
      record {
        is_line = heap_is_line h fits;
        says = said_line (heap_of h) (omega arith, (omega arith, (omega arith, (omega arith, (omega arith, tt)))));
        not_end = refl;
        no_fault = fault_none (Title version ∷ []) (heap_of h) refl
            (pass _ _ _ (within_true 1 (max_chunks version) h.chunks chunks.0 most_chunks) (pass _ _ _ (within_true 1 64 h.procs procs.0 procs.1) (pass _ _ _ (at_most h.rate (2 ^ 30) rate)
            (pass _ _ _ (below_true h.seed (2 ^ 64) seed) (pass _ _ _ (at_most h.goal (max_pages version) most_pages) refl))))) refl refl;
      },
      tt,
    )

-- An event

pub short_event : (procs : ℕ) (e : Event) → procs < 2 ^ 32 → EventFits procs e → Short (alloc_of e)
short_event procs e low fits =
    let proc = fits.proc in
    let size = fits.size in
    let stack = fits.stack in
    (omega arith, (omega arith, (omega arith, tt)))

pub lines_of_good : (past ss : List Statement) → AreGood past ss → AllByRecursion IsLine (map line_for ss)
lines_of_good past [] good = tt
lines_of_good past (s ∷ ss) good = (good.0.is_line, lines_of_good (s ∷ past) ss good.1)

-- Lines of mark ends

pub gc_is_line : (d : ℕ) → Short (Gc d) → IsLine (line_for (Gc d))
gc_is_line d short =
    let l1 = field_length (codes "gc ") [] d 20 (omega arith) short.0 short.0 in
    (omega arith, field_apart (codes "gc ") [] d refl short.0 tt)

pub mark_is_line : (lo hi : ℕ) → Short (Mark lo hi) → IsLine (line_for (Mark lo hi))
mark_is_line lo hi short =
    let r1 = codes " " ++ (decimal hi ++ []) in
    let l2 = field_length (codes " ") [] hi 20 (omega arith) short.1.0 short.1.0 in
    let l1 = field_length (codes "m ") r1 lo 20 (omega arith) short.0 short.0 in
    (omega arith, field_apart (codes "m ") r1 lo refl short.0 (field_apart (codes " ") [] hi refl short.1.0 tt))

pub end_is_line : IsLine (line_for End)
end_is_line = (omega arith, apart_test (codes "end") refl)
