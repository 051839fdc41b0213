-- The parts of an object's line.
use Rattle.std.proofs.Common.{◌≡◌, ℕ, suc, refl, ◌+◌, ◌-◌, ◌^◌, ◌<◌, ◌≤◌, List, [], ◌∷◌, ◌++◌, codes, decimal, drop, get_or, length, set, take, sym, ap, append_assoc, ◌∙◌, arith, length-drop, length-set}
use Rattle.std.proofs.lemmas.Fmt.{decimal_nonempty}
use Rattle.std.proofs.lemmas.List.{drop-append-le, drop-set, drop-take, drop_at, length-take-le, take-append-drop, take_all, take_at, take_more, take_more_set}
use Rattle.text_line.proofs.Counted.{next_decimal}

pub middle : (bytes : List ℕ) (start end : ℕ) → start ≤ end → take (end - start) (drop start bytes) ≡ drop start (take end bytes)
middle bytes start end le =
    let e : start + (end - start) ≡ end = omega arith in
    sym (drop-take start (end - start) bytes) ∙ ap (λ (n : ℕ). drop start (take n bytes)) e

pub whole : (bytes : List ℕ) (start : ℕ) → length bytes ≡ 38 → start ≤ 24 → drop start bytes ≡ drop start (take 24 bytes) ++ drop 24 bytes
whole bytes start long le =
    let len : length (take 24 bytes) ≡ 24 = length-take-le 24 bytes (omega arith) in
    ap (λ (text : List ℕ). drop start text) (sym (take-append-drop 24 bytes)) ∙ drop-append-le start (take 24 bytes) (drop 24 bytes) (omega arith)

pub next_front : (bytes : List ℕ) (start n : ℕ) → length bytes ≡ 38 → start ≤ 24 → n + 1 < 2 ^ 64 → drop start (take 24 bytes) ≡ codes "o " ++ decimal n → get_or bytes 23 0 < 57
    → drop start (take 24 (set bytes 23 (get_or bytes 23 0 + 1))) ≡ codes "o " ++ decimal (n + 1)
next_front bytes start n long le below is few =
    let some = decimal_nonempty n (omega arith) in
    let whole_len : length (take 24 bytes) ≡ 24 = length-take-le 24 bytes (omega arith) in
    let same : length (drop start (take 24 bytes)) ≡ suc (suc (length (decimal n))) = ap length is in
    let within : start ≤ 23 = omega (arith, length-drop start (take 24 bytes)) in
    let front = take 23 bytes in
    let len : length front ≡ 23 = length-take-le 23 bytes (omega arith) in
    let last = get_or bytes 23 0 in
    let old = ap (λ (text : List ℕ). drop start text) (take_more bytes 23 0 (omega arith)) ∙ drop-append-le start front (last ∷ []) (omega arith) in
    let new = ap (λ (text : List ℕ). drop start text) (take_more_set bytes 23 (last + 1) (omega arith)) ∙ drop-append-le start front ((last + 1) ∷ []) (omega arith) in
    new ∙ next_decimal (codes "o ") (drop start front) last n below few (sym old ∙ is)

pub written_front : (bytes rest : List ℕ) (start n : ℕ) → length bytes ≡ 38 → 2 ≤ start → start + length (decimal n) ≡ 24 → drop start bytes ≡ decimal n ++ rest
    → drop (start - 2) (take 24 (set (set bytes (start - 1) 32) (start - 2) 111)) ≡ codes "o " ++ decimal n
written_front bytes rest start n long some end is =
    let low = start - 2 in
    let one = set bytes (start - 1) 32 in
    let two = set one low 111 in
    let e : low + 1 ≡ start - 1 = omega arith in
    let f : start - 1 + 1 ≡ start = omega arith in
    let len : length one ≡ length bytes = length-set bytes (start - 1) 32 in
    let first = rw e at (drop-set one low 111 (omega arith)) in
    let second = rw f at (drop-set bytes (start - 1) 32 (omega arith)) in
    let all : drop low two ≡ 111 ∷ 32 ∷ (decimal n ++ rest) = first ∙ ap (λ (text : List ℕ). 111 ∷ text) second ∙ ap (λ (text : List ℕ). 111 ∷ 32 ∷ text) is in
    let g : 24 ≡ low + (suc (suc (length (decimal n)))) = omega arith in
    (λ i. drop low (take (g i) two)) ∙ drop-take low (suc (suc (length (decimal n)))) two ∙ ap (λ (text : List ℕ). take (suc (suc (length (decimal n)))) text) all
    ∙ take_at (codes "o " ++ decimal n) rest (suc (suc (length (decimal n)))) refl

-- what is put behind the front keeps it
pub kept : (bytes new behind : List ℕ) (start : ℕ) → length bytes ≡ 38 → new ≡ take 24 bytes ++ behind → drop start (take 24 new) ≡ drop start (take 24 bytes)
kept bytes new behind start long is =
    let len : length (take 24 bytes) ≡ 24 = length-take-le 24 bytes (omega arith) in
    ap (λ (text : List ℕ). drop start (take 24 text)) is ∙ ap (λ (text : List ℕ). drop start text) (take_at (take 24 bytes) behind 24 len)

pub put_behind : (bytes new behind : List ℕ) → length bytes ≡ 38 → new ≡ take 24 bytes ++ behind → drop 24 new ≡ behind
put_behind bytes new behind long is =
    ap (λ (text : List ℕ). drop 24 text) is ∙ drop_at (take 24 bytes) behind 24 (length-take-le 24 bytes (omega arith))

-- the whole with an address behind its front
pub addressed : (bytes after address : List ℕ) → length bytes ≡ 38 → length after ≡ 38 → take 37 after ≡ take 27 (set (set (set bytes 24 32) 25 48) 26 120) ++ address
    → set after 37 10 ≡ take 24 bytes ++ (codes " 0x" ++ (address ++ 10 ∷ []))
addressed bytes after address long same is =
    let one = set bytes 24 32 in
    let two = set one 25 48 in
    let l1 : length one ≡ 38 = length-set bytes 24 32 ∙ long in
    let l2 : length two ≡ 38 = length-set one 25 48 ∙ l1 in
    let front = take 24 bytes in
    let a = take_more_set bytes 24 32 (omega arith) in
    let b = take_more_set one 25 48 (omega arith) ∙ ap (λ (text : List ℕ). text ++ 48 ∷ []) a ∙ append_assoc front (32 ∷ []) (48 ∷ []) in
    let c = take_more_set two 26 120 (omega arith) ∙ ap (λ (text : List ℕ). text ++ 120 ∷ []) b ∙ append_assoc front (32 ∷ 48 ∷ []) (120 ∷ []) in
    let d = is ∙ ap (λ (text : List ℕ). text ++ address) c ∙ append_assoc front (32 ∷ 48 ∷ 120 ∷ []) address in
    sym (take_all 38 (set after 37 10) (omega (arith, length-set after 37 10))) ∙ take_more_set after 37 10 (omega arith) ∙ ap (λ (text : List ℕ). text ++ 10 ∷ []) d
    ∙ append_assoc front (32 ∷ 48 ∷ 120 ∷ address) (10 ∷ [])
