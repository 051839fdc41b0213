-- What a mark end needs of all hands, words and sets, and of its marks.
use Rattle.std.specs.Prelude.{ℕ, ◌+◌, ◌^◌, ◌==◌, ◌&&◌, Bool, not, nat_lt, if◌then◌else◌, List, [], ◌∷◌, length, Option, Some, None, unwrap_or, option_map, option_and_then}
use Rattle.std.specs.Option.{is_some}
use Rattle.std.specs.List.{position, find}
use Rattle.sweep_laws.specs.declared.moves.Found.TheVariants.{Word, Holder, HeadTail, Index}
use Rattle.sweep_laws.specs.State.{CoreState, HandState, SetState}
use Rattle.sweep_laws.specs.Lists.{has, first_of}
use Rattle.sweep_laws.specs.Reading.{no_set, allocated_at, is_swept_set, is_settled}
use Rattle.sweep_laws.specs.NeedsOfRange.{Need, need}
use Rattle.sweep_laws.specs.NeedsOfSets.{claimed_index}

-- the generation can rise once more: it never passes 2^63
abbrev pub generation_is_low : CoreState → Need
generation_is_low c = need (nat_lt c.generation (2 ^ 63)) (Word c.generation)

-- whether a hand sweeps and holds nothing and has no popped entry; it may have pages cached
abbrev pub is_idle : HandState → Bool
is_idle h = (length h.sweeping == 0) && ((length h.held == 0) && (length h.popped == 0))

-- the first worker that sweeps, holds or has popped a page
abbrev pub busy_hand : CoreState → Option ℕ
busy_hand c = position (λ h. not (is_idle h)) c.hands

-- all hands are idle; else the first that is not is told
abbrev pub hands_are_idle : CoreState → Need
hands_are_idle c = need (not (is_some (busy_hand c))) (Holder (busy_hand c))

-- the first hand that has pulled a page
abbrev pub first_puller : CoreState → Option HandState
first_puller c = find (λ h. not (length h.pulled == 0)) c.hands

-- the first page of a hand's pulled list
abbrev pub pulled_index : HandState → Option ℕ
pulled_index h = first_of h.pulled

-- no hand has pulled a page; else the first page of the first such hand is told
abbrev pub nothing_pulled : CoreState → Need
nothing_pulled c = need (not (is_some (first_puller c))) (Index (option_and_then pulled_index (first_puller c)))

-- the index that a hand claims
abbrev pub claim_index : HandState → Option ℕ
claim_index h = claimed_index h.claimed

-- the first hand that claims an index
abbrev pub first_claim : CoreState → Option HandState
first_claim c = find (λ h. is_some h.claimed) c.hands

-- no hand claims an index; else the first such index is told
abbrev pub no_claims : CoreState → Need
no_claims c = need (not (is_some (first_claim c))) (Index (option_and_then claim_index (first_claim c)))

-- the first word that is not settled
abbrev pub unsettled_word : CoreState → Option ℕ
unsettled_word c = find (λ word. not (is_settled c.generation word)) c.words

-- no span is to be swept or being swept; else the first such word is told
abbrev pub words_are_settled : CoreState → Need
words_are_settled c = need (not (is_some (unsettled_word c))) (Word (unwrap_or (unsettled_word c) 0))

-- the first unswept set, of those numbered from `number` on, with head and tail apart
abbrev pub first_unpopped : ℕ → ℕ → List SetState → Option SetState
first_unpopped generation number [] = None
first_unpopped generation number (s ∷ sets) =
    if not (is_swept_set generation number) && not (s.head == s.tail) then Some s else first_unpopped generation (number + 1) sets

-- the same among all sets of a state
abbrev pub unpopped_set : CoreState → Option SetState
unpopped_set c = first_unpopped c.generation 0 c.sets

-- all entries of the unswept sets are popped; else head and tail of the first set with one are told
abbrev pub sets_are_popped : CoreState → Need
sets_are_popped c =
    need (not (is_some (unpopped_set c)))
    (HeadTail (unwrap_or (unpopped_set c) no_set).head (unwrap_or (unpopped_set c) no_set).tail)

-- whether a mark, of a first page and an index, names an allocated index of a life
abbrev pub is_allocated : CoreState → ℕ × ℕ → Bool
is_allocated c mark = has mark.1 (allocated_at c mark.0)

-- the index of the first mark that names none
abbrev pub wrong_mark : CoreState → List (ℕ × ℕ) → Option ℕ
wrong_mark c marks = option_map (λ mark. mark.1) (find (λ mark. not (is_allocated c mark)) marks)

-- each mark names an allocated index
abbrev pub marks_are_allocated : CoreState → List (ℕ × ℕ) → Need
marks_are_allocated c marks = need (not (is_some (wrong_mark c marks))) (Index (wrong_mark c marks))
