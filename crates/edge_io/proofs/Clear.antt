-- The bytes of a line that are taken at once.
use Rattle.std.proofs.Common.{◌≡◌, ◌≢◌, ℕ, ◌+◌, ◌-◌, ◌<◌, ◌≤◌, List, [], ◌∷◌, ◌++◌, get_or, length, take, drop, sym, slice_range, slice_index, Option, None, Some, refl, ap, ◌∙◌, arith, append_assoc, take-add, drop-drop}
use Rattle.std.specs.Io.KnownBytes.{Consumes, prepend_known}
use Rattle.std.proofs.lemmas.List.Edits.{length-between, get_or-between}
use Rattle.std.proofs.lemmas.List.Elements.{All-from_get_or, recursion_from_All}
use Rattle.std.proofs.lemmas.List.{take_at, length-take-le}
use Rattle.edge_io.proofs.Waits.{waits-slice}
use borrow.Rule.Slice.PartMut.{put_mid, post_of}
use Rattle.edge_io.specs.declared.lines.Lines.{Lines}
use Rattle.edge_io.specs.Reading.{KeepsMore, TakesLine, line_of}
use Rattle.edge_io.specs.Line.{HasNoFeed}
use Rattle.std.proofs.lemmas.List.{take_more, get_or-drop, length-drop}

pub split_slice : (b : List ℕ) (s n e : ℕ) → s + n ≤ e → slice_range b s e ≡ slice_range b s (s + n) ++ slice_range b (s + n) e
split_slice b s n e le =
    let count : s + n - s ≡ n = omega arith in
    let whole : e - s ≡ n + (e - (s + n)) = omega arith in
    rw (count, whole, take-add, drop-drop) refl

-- bytes before the place that is written behind
pub front_kept : (b piece : List ℕ) (s e k : ℕ) → s ≤ e → e ≤ length b → slice_range (put_mid e k b piece) s e ≡ slice_range b s e
front_kept b piece s e k ordered inside =
    let same : take e (put_mid e k b piece) ≡ take e b = take_at (take e b) (piece ++ post_of e k b) e (length-take-le e b inside) in
    waits-slice s e (put_mid e k b piece) ordered ∙ ap (λ (xs : List ℕ). drop s xs) same ∙ sym (waits-slice s e b ordered)

-- the front of a buffer before the bytes that are left
consumes_front : (left : Option (List ℕ)) (b : List ℕ) (s n e : ℕ) → s + n ≤ e
    → Consumes (prepend_known (slice_range b s e) left) (prepend_known (slice_range b (s + n) e) left) (slice_range b s (s + n))
consumes_front None b s n e le = tt
consumes_front (Some xs) b s n e le = ap (λ (bytes : List ℕ). bytes ++ xs) (split_slice b s n e le) ∙ append_assoc (slice_range b s (s + n)) (slice_range b (s + n) e) xs

-- a line and the bytes behind it
joined : (b : List ℕ) (begin used start n : ℕ) → begin + used ≡ start
    → slice_range b begin (begin + (used + n)) ≡ slice_range b begin (begin + used) ++ slice_range b start (start + n)
joined b begin used start n inside =
    let whole : start + n ≡ begin + (used + n) = omega arith in
    rw (whole, ← inside) (split_slice b begin used (begin + (used + n)) (omega arith))

-- none of the bytes is a line feed
slice_clear : (b : List ℕ) (s n : ℕ) → s + n ≤ length b → ((i : ℕ) → i < n → slice_index b (s + i) ≢ 10) → HasNoFeed (slice_range b s (s + n))
slice_clear b s n inside clear =
    let bytes = slice_range b s (s + n) in
    let size : length bytes ≡ n = omega (arith, length-between b s (s + n) (omega arith)) in
    recursion_from_All (λ byte. byte ≢ 10) bytes
    (All-from_get_or (λ byte. byte ≢ 10) bytes 0 (λ i below. rw (get_or-between b s (s + n) i 0 (omega arith)) (clear i (omega arith))))

-- bytes behind the line are taken
pub kept_more : {S : Type 0} (left : S → Option (List ℕ)) (old new : Lines S) (n : ℕ)
    → ((i : ℕ) → i < n → slice_index old.buffer (old.start + i) ≢ 10) → length old.buffer ≡ 32768
    → old.begin + old.used ≡ old.start → old.start + n ≤ old.end
    → new.source.now ≡ old.source.now → new.buffer ≡ old.buffer → new.begin ≡ old.begin → new.start ≡ old.start + n → new.end ≡ old.end
    → new.used ≡ old.used + n → old.room ≡ new.room + n
    → KeepsMore left old new
kept_more left old new n clear whole inside ahead source buffer begin start end used room =
    let bytes = slice_range old.buffer old.start (old.start + n) in
    let size : length bytes ≡ n = omega (arith, length-between old.buffer old.start (old.start + n) (omega arith)) in
    let taken = consumes_front (left old.source.now) old.buffer old.start n old.end ahead in
    record {
      bytes = bytes;
      taken = rw (source, buffer, start, end) taken;
      line = rw (buffer, begin, used) (joined old.buffer old.begin old.used old.start n inside);
      clear = slice_clear old.buffer old.start n (omega arith) clear;
      room = omega arith;
      used = omega arith;
    }

-- bytes and the line feed behind them
with_feed : (b : List ℕ) (s n : ℕ) → s + n < length b → slice_index b (s + n) ≡ 10 → slice_range b s (s + (n + 1)) ≡ slice_range b s (s + n) ++ 10 ∷ []
with_feed b s n inside feed =
    let count : s + n - s ≡ n = omega arith in
    let whole : s + (n + 1) - s ≡ n + 1 = omega arith in
    let below : n < length (drop s b) = omega (arith, length-drop s b) in
    let last : get_or (drop s b) n 0 ≡ 10 = get_or-drop s b n 0 ∙ feed in
    rw (whole, count) (take_more (drop s b) n 0 below ∙ ap (λ (byte : ℕ). take n (drop s b) ++ byte ∷ []) last)

-- a line is taken with its line feed
pub takes_line : {S : Type 0} (left : S → Option (List ℕ)) (old new : Lines S) (n : ℕ)
    → ((i : ℕ) → i < n → slice_index old.buffer (old.start + i) ≢ 10) → slice_index old.buffer (old.start + n) ≡ 10 → length old.buffer ≡ 32768
    → old.start + n < old.end → n ≤ 120
    → new.source.now ≡ old.source.now → new.buffer ≡ old.buffer → new.begin ≡ old.start → new.start ≡ old.start + (n + 1) → new.end ≡ old.end
    → new.used ≡ n → old.room ≡ new.room + n + 1
    → TakesLine left old new
takes_line left old new n clear feed whole ahead short source buffer begin start end used room =
    let line = slice_range old.buffer old.start (old.start + n) in
    let size : length line ≡ n = omega (arith, length-between old.buffer old.start (old.start + n) (omega arith)) in
    let same : line_of new ≡ line = rw (buffer, begin, used) refl in
    let bytes = with_feed old.buffer old.start n (omega arith) feed in
    let taken = consumes_front (left old.source.now) old.buffer old.start (n + 1) old.end (omega arith) in
    record {
      taken = rw (same, source, buffer, start, end, ← bytes) taken;
      is_line = rw same (omega arith, slice_clear old.buffer old.start n (omega arith) clear);
      room = rw same (omega arith);
    }
