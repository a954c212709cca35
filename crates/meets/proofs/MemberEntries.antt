-- The entries of an object of the message stand for its members; a value of one never begins at the message's start, by
-- induction on the entries, each of which has its quotation marks before its value.
use mathlib.Core.Path.{◌≡◌, refl, ap, sym, subst, ◌∙◌}
use mathlib.Core.List.{List, [], ◌∷◌, ◌++◌}
use mathlib.Core.Bool.{false}
use Prim.Native.Nat.{ℕ, ◌+◌, ◌≤◌}
use native.Mathlib.Omega.{arith}
use lib.ListN.{length, length-append}
use lib.Dec.{eqb}
use Rattle.prelude.specs.Ascii.{ascii}
use Rattle.grammar.specs.Grammar.{leaves_str, colon, comma, leaves_sign, leaves_value, Bracket, curly, square, opening}
use Rattle.grammar.specs.Grammar.{Label, Value, nested, empty, string, number, literal, Entries, last, more, leaves_label}
use Rattle.grammar.specs.Places.{kind, place, place_name, placed, placed_entries, Placed, item, kind_of, start_of}
use Rattle.grammar.specs.Places.{parts_of, members, Parts, done}
use Rattle.grammar.specs.Places as places
use Rattle.grammar.specs.Bounds.{Every}
use Rattle.grammar.specs.Readings.{Reading}
use Rattle.grammar.specs.Shown.{Shown, Everywhere}
use Rattle.grammar.specs.Reader.{members_at, skip_space}
use Rattle.grammar.specs.Spellings.{adds, next, undo_from, undo, equal, has}
use Rattle.names.specs.Names.{number_in}
use Rattle.prelude.specs.Any.{any}
use Rattle.rows.specs.Rows.{Entry, text_of, entries_in, entry_of, Texts, one_text}
use Rattle.headers.specs.Headers.{outermost}
use Rattle.shape.specs.Shape.{member_names, member_entries}
use Rattle.meets.specs.Members.{Member, members_of}
use Rattle.meets.proofs.OneForOne.{OneForOne, zip_into, zip_map_right}
use Rattle.meets.proofs.Standing.{Stands, MemberStands, placed_kind, placed_start, reading_stands}
use Rattle.meets.proofs.Rows.{members_stand}
use Rattle.meets.proofs.Numbering.{disagrees}
use Rattle.meets.proofs.Entries.{EntryStands, Seen, entry_seen}

-- Where values begin

start_after : (v : Value) (n : ℕ) → n ≤ start_of (placed n v)
unfolding place
start_after v n = subst (λ m. n ≤ m) (placed_start v n) (omega arith)

abbrev Later : places.Member → Type 0
Later m = 1 ≤ m.value_start

first_later : (b : Bracket) (l : Label b) (v : Value) (n : ℕ) (ps : Parts) → Every Later (members ps) →
    Every Later (members (places.part (place_name b n l) (placed (n + length (leaves_label b l)) v) ps))
unfolding place_name members leaves_label leaves_str
first_later curly l v n ps h =
    let k = n + length (leaves_label curly l) in
    (omega (arith, start_after v k, length-append (leaves_str l.name) (leaves_sign colon l.sign)), h)
first_later square l v n ps h = h

entries_later : {b : Bracket} (es : Entries b) (n : ℕ) → Every Later (members (placed_entries n es))
unfolding placed members
entries_later (last {b} l v) n = first_later b l v n done tt
entries_later (more {b} l v x es) n =
    let k = n + length (leaves_label b l ++ (leaves_value v ++ leaves_sign comma x)) in
    first_later b l v n (placed_entries k es) (entries_later es k)

rows_later : (v : Value) (n : ℕ) → Every Later (members (parts_of (placed n v)))
unfolding placed members
rows_later (nested b x es y) n = entries_later es (n + length (leaves_sign (opening b) x))
rows_later (empty b x y) n = tt
rows_later (string x) n = tt
rows_later (number x) n = tt
rows_later (literal x) n = tt

shown_members : (s : List ℕ) (p : Placed) → Everywhere (Shown 12 s) p → kind_of p ≡ 0 →
    members_at 12 s (start_of p) ≡ members (parts_of p)
unfolding Everywhere Shown
shown_members s (item k q ps) h e = h.0.1 e

members_later : (s : List ℕ) (v : Value) (at size : ℕ) → Stands s v at size → kind v ≡ 0 →
    Every Later (members_at 12 s at)
members_later s v at size h e =
    let p = placed h.from v in
    let rows = shown_members s p h.shown (placed_kind v h.from ∙ e) in
    let there : start_of p ≡ at = sym (placed_start v h.from) ∙ h.starts in
    subst (λ (ms : List places.Member). Every Later ms) (sym rows ∙ ap (members_at 12 s) there) (rows_later v h.from)

-- Entries of rows where members stand.
pub entries_of_lem : (names : List (List ℕ)) (ts : Texts) (o : ℕ) (ps : List Member)
    (rows : List places.Member) → OneForOne (MemberStands (text_of ts o)) ps rows →
    OneForOne (EntryStands names ts o) ps (entries_in names (text_of ts o) o rows)
unfolding entries_in
entries_of_lem names ts o ps rows z =
    (zip_map_right (EntryStands names ts o) (entry_of names (text_of ts o) o) ps rows).0
    (zip_into (MemberStands (text_of ts o))
    (λ p m. EntryStands names ts o p (entry_of names (text_of ts o) o m))
    (λ p m h. record { row = m; made = refl; stands = h }) ps rows z)

-- A member of an object of the message and its entry.
pub record Held (message : List ℕ) (p : Member) (e : Entry) : Type 0 where
  pub seen : Seen member_names (one_text message) p e
  pub stands : Stands message p.value e.member.value_start e.member.value_size
  pub later : 1 ≤ e.member.value_start

-- An object of the message and its entries.
pub record Holds (message : List ℕ) (ps : List Member) (es : List Entry) : Type 0 where
  pub entries : OneForOne (EntryStands member_names (one_text message) 1) ps es
  pub held : OneForOne (Held message) ps es

module _ (message : List ℕ) where
  held_of : (ps : List Member) (rows : List places.Member) → OneForOne (MemberStands message) ps rows → Every Later rows →
      OneForOne (λ p m. Held message p (entry_of member_names message 1 m)) ps rows
  held_of [] [] z h = tt
  held_of [] (m ∷ rows) z h = absurd z
  held_of (p ∷ ps) [] z h = absurd z
  held_of (p ∷ ps) (m ∷ rows) z h = (
    record {
      seen =
          entry_seen member_names (one_text message) 1 p (entry_of member_names message 1 m)
          (record { row = m; made = refl; stands = z.0 });
      stands = z.0.stands;
      later = h.0;
    },
    held_of ps rows z.1 h.1,
  )

  -- An object that stands in the message and the entries of its rows.
  pub object_holds : (v : Value) (at size : ℕ) → Stands message v at size → kind v ≡ 0 →
      Holds message (members_of v) (member_entries message (members_at 12 message at))
  unfolding member_entries entries_in
  object_holds v at size h e =
      let z = members_stand message v at size h e in record {
        entries = entries_of_lem member_names (one_text message) 1 (members_of v) (members_at 12 message at) z;
        held =
            (zip_map_right (Held message) (entry_of member_names message 1) (members_of v) (members_at 12 message at)).0
            (held_of (members_of v) (members_at 12 message at) z (members_later message v at size h e));
      }

  -- The top level.
  pub top_holds : (r : Reading 12 message) →
      Holds message (members_of r.text.value) (member_entries message (outermost message))
  unfolding outermost
  top_holds r = object_holds r.text.value (skip_space message 0) _ (reading_stands message r) r.object

-- The known members by their numbers: computed over the list.

abbrev pub IsMember : ℕ → List ℕ → Type 0
IsMember n w = disagrees member_names (λ m. eqb m n) (w ∷ []) ≡ false

pub protected_number : IsMember 1 (ascii "protected")
unfolding disagrees any member_names ascii number_in has equal undo undo_from adds next
protected_number = refl

pub unprotected_number : IsMember 2 (ascii "unprotected")
unfolding disagrees any member_names ascii number_in has equal undo undo_from adds next
unprotected_number = refl

pub header_number : IsMember 3 (ascii "header")
unfolding disagrees any member_names ascii number_in has equal undo undo_from adds next
header_number = refl

pub key_number : IsMember 4 (ascii "encrypted_key")
unfolding disagrees any member_names ascii number_in has equal undo undo_from adds next
key_number = refl

pub recipients_number : IsMember 5 (ascii "recipients")
unfolding disagrees any member_names ascii number_in has equal undo undo_from adds next
recipients_number = refl

pub iv_number : IsMember 6 (ascii "iv")
unfolding disagrees any member_names ascii number_in has equal undo undo_from adds next
iv_number = refl

pub aad_number_lem : IsMember 7 (ascii "aad")
unfolding disagrees any member_names ascii number_in has equal undo undo_from adds next
aad_number_lem = refl

pub ciphertext_number : IsMember 8 (ascii "ciphertext")
unfolding disagrees any member_names ascii number_in has equal undo undo_from adds next
ciphertext_number = refl

pub tag_number : IsMember 9 (ascii "tag")
unfolding disagrees any member_names ascii number_in has equal undo undo_from adds next
tag_number = refl
