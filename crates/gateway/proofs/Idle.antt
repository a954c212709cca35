-- Idle programs do not meet the contract of `read`: one that always refuses, one constant answer, one that exchanges two
-- numbers of refusal; and, on accepted messages alone, one that writes no list or the same for every recipient, one mode or key
-- for every recipient, and a form, a recipient count, a mode or a parameter count that does not look at the message. Each
-- falls to messages, by computation.
use mathlib.Core.Path.{◌≡◌, refl, ap, sym, subst, ◌∙◌}
use mathlib.Core.Bool.{xor, cond}
use mathlib.Core.List.{List, [], ◌∷◌, flat_map, replicate}
use Prim.Native.Nat.{ℕ}
use lib.ListN.{length, get_or, get_or-replicate}
use lib.Dec.{eqb}
use native.Mathlib.Omega.{arith}
use Rattle.prelude.specs.Buffer.{written}
use Rattle.prelude.specs.Ascii.{ascii}
use Rattle.base64url.specs.Base64url.{alphabet, character, place_in, six_bits, sextets, octets, encoded, decoded}
use Rattle.base64url.specs.Fault.{first_outside, spare_bits, fault}
use Rattle.names.specs.Names.{names, sound, limited, filled, total, cut, number_in}
use Rattle.parts.specs.Parts.{part, seek, seek_in, holds}
use Rattle.grammar.specs.Utf8.{utf8, utf8_after, follow, encode}
use Rattle.grammar.specs.Spellings.{undo, undo_from, adds, next, equal, has, alike}
use Rattle.grammar.specs.Reader.{pass_over, skip, turn, scan_string, string_at, digits_at, int_at, perhaps_at, fraction_at}
use Rattle.grammar.specs.Reader.{exponent_at, number_at, word_at, before_at, entry_at, entries_at, rows_at, nested_at, rows_in}
use Rattle.grammar.specs.Reader.{value_with, value_at, members_at, elements_of, elements_at, read_text, opens_object}
use Rattle.prelude.specs.Any.{any, any_pair}
use Rattle.rows.specs.Rows.{entries_in, present, having, value_of, repeated}
use Rattle.rows.specs.Tables.{listed}
use Rattle.jose.specs.Registered.{registered, kind_asked}
use Rattle.algorithms.specs.Algorithms.{algs, alg_name, encs, enc_name, alg_names, enc_names, zip_names, nth}
use Rattle.prelude.specs.Refusals.{first}
use Rattle.jose.specs.HeaderRules.{incomplete, wrong_crit, mode_in, recipient_order}
use Rattle.jose.specs.ContentAlgorithm.{content_algorithm, differing}
use Rattle.headers.specs.Components.{misspelled}
use Rattle.headers.specs.Headers.{header_text, unread, text_order, outermost, protected_entries, members_of, header_entries}
use Rattle.headers.specs.Headers.{object_order}
use Rattle.shape.specs.Shape.{member_names, member_entries, wrong_member, wrong_top, wrong_elements, wrong_element}
use Rattle.shape.specs.Recipients.{top_entries, top_order, elements_in, element_entries, element_order, elements_order}
use Rattle.shape.specs.Recipients.{recipients_in, components_in}
use Rattle.jwe.specs.Compact.{stops, four_stops, compact_components, compact_order}
use Rattle.jwe.specs.General.{shared_entries, own_entries, parameters, all_places, any_misspelled, protected_order}
use Rattle.jwe.specs.General.{headers_order, recipients_order, content_order, json_spelled, json_later, json_order}
use Rattle.jwe.specs.Judge.{Call, call, call_for, order, refusal, asked, held, outcome, accepted}
use Rattle.jwe.specs.Judge.{refused, result_of, list_after}
use Rattle.meets.specs.Meets.{Meets}
use Rattle.meets.proofs.Accepted.{accepted_exactly}
use Rattle.refusals.specs.Table.{Refuses}
use Rattle.refusals.specs.Numbers.{numbers_table}
use Rattle.refusals.proofs.Renumbered.{renumber, numbers_fixed}
use Rattle.gateway.specs.Samples.{M}

-- Beside document 01's M, a compact message with two parameters: a flattened one with three, a general one with two recipients of
-- their own algorithms and keys, and one that is refused: its header `{"enc":1}` breaks 13 and 14.

abbrev three : List ℕ
three =
    ascii "{\"unprotected\":{\"alg\":\"A128KW\",\"enc\":\"A128GCM\",\"kid\":\"a\"},\"encrypted_key\":\"AA\",\"ciphertext\":\"\"}"

abbrev two : List ℕ
two =
    ascii "{\"unprotected\":{\"enc\":\"A128GCM\"},\"recipients\":[{\"header\":{\"alg\":\"dir\"}},{\"header\":{\"alg\":\"A128KW\"},\"encrypted_key\":\"AA\"}],\"ciphertext\":\"\"}"

abbrev broken : List ℕ
broken = ascii "eyJlbmMiOjF9...."

-- No names known.
abbrev none : List ℕ
none = 0 ∷ []

-- A message read for a recipient, with just enough room.
abbrev ask : List ℕ → ℕ → Call
ask message n = call message none n 4096 576

abbrev answered : List ℕ → ℕ → ℕ → ℕ
answered message n i = get_or (result_of (ask message n)) i 0

abbrev list : ℕ → List ℕ
list n = list_after (ask two n) (replicate 576 0)

record Computed : Type 0 where
  one : refusal (ask M 0) ≡ 0
  other : refusal (ask three 0) ≡ 0
  first : refusal (ask two 0) ≡ 0
  second : refusal (ask two 1) ≡ 0
  forms : (answered M 0 1 ≡ 0) × (answered three 0 1 ≡ 1)
  counts : (answered M 0 2 ≡ 1) × (answered two 0 2 ≡ 2)
  modes : (answered two 0 3 ≡ 5) × (answered two 1 3 ≡ 2) × (answered M 0 3 ≡ 5) × (answered three 0 3 ≡ 2)
  keys : (answered two 0 7 ≡ 0) × (answered two 1 7 ≡ 2)
  parameters : (answered M 0 17 ≡ 2) × (answered three 0 17 ≡ 3)
  lists : (get_or (list 0) 7 0 ≡ 59) × (get_or (list 1) 7 0 ≡ 84)
  numbers : (answered M 0 0 ≡ 0) × (answered broken 0 0 ≡ 13)
  exchanged : refusal (ask broken 0) ≡ 13

computed : Computed
unfolding ascii alphabet character place_in six_bits sextets octets encoded decoded first_outside spare_bits fault names sound limited filled total cut number_in part seek seek_in holds utf8 utf8_after follow encode undo undo_from adds next equal has alike pass_over skip turn scan_string string_at digits_at int_at perhaps_at fraction_at exponent_at number_at word_at before_at entry_at entries_at rows_at nested_at rows_in value_with value_at members_at elements_of elements_at read_text opens_object any any_pair entries_in present having value_of repeated listed registered kind_asked algs alg_name encs enc_name alg_names enc_names zip_names nth first incomplete wrong_crit mode_in recipient_order content_algorithm differing misspelled header_text unread text_order outermost protected_entries members_of header_entries object_order member_names member_entries wrong_member wrong_top wrong_elements wrong_element top_entries top_order elements_in element_entries element_order elements_order recipients_in components_in stops four_stops compact_components compact_order shared_entries own_entries parameters all_places any_misspelled protected_order headers_order recipients_order content_order json_spelled json_later json_order order refusal asked held outcome accepted refused result_of written list_after flat_map xor
computed = record {
  one = refl;
  other = refl;
  first = refl;
  second = refl;
  forms = (refl, refl);
  counts = (refl, refl);
  modes = (refl, refl, refl, refl);
  keys = (refl, refl);
  parameters = (refl, refl);
  lists = (refl, refl);
  numbers = (refl, refl);
  exchanged = refl;
}

meets : (c : Call) → refusal c ≡ 0 → Meets c
meets c = (accepted_exactly c).0

apart : (m n : ℕ) (k l : ℕ) → m ≡ k → n ≡ l → (k ≡ l → ⊥) → m ≡ n → ⊥
apart m n k l p q d e = d (sym p ∙ e ∙ q)

-- Always refusing.
pub not_always_refusing : ((c : Call) → refusal c ≡ 0 → ⊥) → ⊥
not_always_refusing refuses = refuses (ask M 0) computed.one

-- One constant answer.
pub not_constant : (r : List ℕ) → ((c : Call) → result_of c ≡ r) → ⊥
not_constant r same =
    let c = computed in
    apart (answered M 0 0) (answered broken 0 0) 0 13 c.numbers.0 c.numbers.1 (λ z. omega arith)
    (ap (λ (x : List ℕ). get_or x 0 0) (same (ask M 0) ∙ sym (same (ask broken 0))))

-- 13 for 14 and 14 for 13: the sentences of document 01 with these two exchanged are not what the reader gives.

abbrev exchanged : ℕ → ℕ
exchanged n = cond (eqb n 13) 14 (cond (eqb n 14) 13 n)

pub not_exchanged : ((c : Call) → Refuses (renumber exchanged (numbers_table c)) (refusal c)) → ⊥
not_exchanged other =
    let gives = computed.exchanged in
    let z : ◌≡◌ {A = ℕ} 13 14 =
    numbers_fixed exchanged (ask broken 0) 13 (λ e. omega arith) gives
    (subst (Refuses (renumber exchanged (numbers_table (ask broken 0)))) gives (other (ask broken 0))) in
    omega arith

-- On accepted messages alone

lists_apart : (x y : List ℕ) → get_or x 7 0 ≡ 84 → get_or y 7 0 ≡ 59 → x ≡ y → ⊥
lists_apart x y p q e = let z = ap (λ (w : List ℕ). get_or w 7 0) e in omega arith

unlisted : (x : List ℕ) → get_or x 7 0 ≡ 84 → x ≡ replicate 576 0 → ⊥
unlisted x p e =
    let z = ap (λ (w : List ℕ). get_or w 7 0) e ∙ get_or-replicate 576 7 0 0 (omega arith) in
    omega arith

-- No list.
pub not_listless : ((c : Call) (list : List ℕ) → c.list_lent ≡ length list → Meets c → list_after c list ≡ list) → ⊥
not_listless same =
    let c = computed in
    unlisted (list 1) c.lists.1 (same (ask two 1) (replicate 576 0) refl (meets (ask two 1) c.second))

-- One list for every recipient.
pub not_the_same_for_all : ((c : Call) (list : List ℕ) → c.list_lent ≡ length list → Meets c →
    list_after c list ≡ list_after (call_for 0 c) list) → ⊥
not_the_same_for_all same =
    let c = computed in
    lists_apart (list 1) (list 0) c.lists.1 c.lists.0
    (same (ask two 1) (replicate 576 0) refl (meets (ask two 1) c.second))

-- One number of the result for every recipient: its mode (3), the length of its key (7).
abbrev pub Shared : ℕ → Type 0
Shared i = (c : Call) → Meets c → get_or (result_of c) i 0 ≡ get_or (result_of (call_for 0 c)) i 0

pub not_shared : (Shared 3 → ⊥) × (Shared 7 → ⊥)
not_shared =
    let c = computed in (
      (λ same. apart (answered two 1 3) (answered two 0 3) 2 5 c.modes.1 c.modes.0 (λ z. omega arith)
          (same (ask two 1) (meets (ask two 1) c.second))),
      (λ same. apart (answered two 1 7) (answered two 0 7) 2 0 c.keys.1 c.keys.0 (λ z. omega arith)
          (same (ask two 1) (meets (ask two 1) c.second))),
    )

-- A number of the result that is made up of everything but the message: its form (1), the recipient count (2), the mode (3),
-- the parameter count (17).
abbrev pub MadeUp : ℕ → Type 0
MadeUp i =
    (k : List ℕ → ℕ → ℕ → ℕ → ℕ)
    × ((c : Call) → Meets c → get_or (result_of c) i 0 ≡ k c.known c.recipient c.header_lent c.list_lent)

made_up : (i : ℕ) (s t : List ℕ) → refusal (ask s 0) ≡ 0 → refusal (ask t 0) ≡ 0 →
    (answered s 0 i ≡ answered t 0 i → ⊥) → MadeUp i → ⊥
made_up i s t a b d (k, e) = d (e (ask s 0) (meets (ask s 0) a) ∙ sym (e (ask t 0) (meets (ask t 0) b)))

pub not_made_up : (MadeUp 1 → ⊥) × (MadeUp 2 → ⊥) × (MadeUp 3 → ⊥) × (MadeUp 17 → ⊥)
not_made_up =
    let c = computed in (
      made_up 1 M three c.one c.other
          (apart (answered M 0 1) (answered three 0 1) 0 1 c.forms.0 c.forms.1 (λ z. omega arith)),
      made_up 2 M two c.one c.first
          (apart (answered M 0 2) (answered two 0 2) 1 2 c.counts.0 c.counts.1 (λ z. omega arith)),
      made_up 3 M three c.one c.other
          (apart (answered M 0 3) (answered three 0 3) 5 2 c.modes.2 c.modes.3 (λ z. omega arith)),
      made_up 17 M three c.one c.other
          (apart (answered M 0 17) (answered three 0 17) 2 3 c.parameters.0 c.parameters.1 (λ z. omega arith)),
    )
