-- The names that are written: plain characters, each with its number; and refusals 8 and 9 on an object with some of a few
-- names that say different things.
use mathlib.Core.Path.{◌≡◌, refl, ap, ap₂, ◌∙◌}
use mathlib.Core.List.{List, [], ◌∷◌, map}
use mathlib.Core.Bool.{Bool, false, ◌&&◌, ◌||◌}
use Prim.Native.Nat.{ℕ, suc, ◌≤◌}
use native.Mathlib.Omega.{arith}
use lib.ListN.{length}
use lib.Dec.{T, eqb}
use borrow.Author.Tests.{le-ltb}
use Rattle.prelude.specs.Ascii.{ascii}
use Rattle.grammar.specs.Spellings.{adds, next, undo_from, undo, equal, alike, has}
use Rattle.names.specs.Names.{number_in}
use Rattle.prelude.specs.Any.{any, any_pair}
use Rattle.rows.specs.Rows.{Entry, one_text, text_of, spelled_name, same, repeated}
use Rattle.prelude.specs.Limits.{most_members}
use Rattle.headers.specs.Headers.{object_order}
use Rattle.shape.specs.Shape as shape
use Rattle.shape.specs.Shape.{member_names}
use Rattle.json_text.proofs.Made.{plain, Field}
use Rattle.json_text.proofs.Fields.{behind_field, FieldsStand}
use Rattle.jose.proofs.Alike.{Beside, pair_beside}
use Rattle.json_message.proofs.Agree.{Agree, agree_append, agree_pass}
use Rattle.json_message.proofs.FieldEntries.{entries_from, part_stands, or_false}

-- A name of plain characters, with its number.
pub record Known (name : List ℕ) (number : ℕ) : Type 0 where
  pub plainly : T (plain name)
  pub numbered : number_in member_names name ≡ number

pub protected_known : Known (ascii "protected") shape.protected
unfolding ascii plain adds next undo_from undo equal has number_in member_names
protected_known = record { plainly = tt; numbered = refl }

pub shared_known : Known (ascii "unprotected") shape.unprotected
unfolding ascii plain adds next undo_from undo equal has number_in member_names
shared_known = record { plainly = tt; numbered = refl }

pub header_known : Known (ascii "header") shape.header
unfolding ascii plain adds next undo_from undo equal has number_in member_names
header_known = record { plainly = tt; numbered = refl }

pub key_known : Known (ascii "encrypted_key") shape.encrypted_key
unfolding ascii plain adds next undo_from undo equal has number_in member_names
key_known = record { plainly = tt; numbered = refl }

pub recipients_known : Known (ascii "recipients") shape.recipients
unfolding ascii plain adds next undo_from undo equal has number_in member_names
recipients_known = record { plainly = tt; numbered = refl }

pub iv_known : Known (ascii "iv") shape.iv
unfolding ascii plain adds next undo_from undo equal has number_in member_names
iv_known = record { plainly = tt; numbered = refl }

pub aad_known : Known (ascii "aad") shape.aad
unfolding ascii plain adds next undo_from undo equal has number_in member_names
aad_known = record { plainly = tt; numbered = refl }

pub ciphertext_known : Known (ascii "ciphertext") shape.ciphertext
unfolding ascii plain adds next undo_from undo equal has number_in member_names
ciphertext_known = record { plainly = tt; numbered = refl }

pub tag_known : Known (ascii "tag") shape.tag
unfolding ascii plain adds next undo_from undo equal has number_in member_names
tag_known = record { plainly = tt; numbered = refl }

-- Lists of names, some left out.

pub data Sub : List (List ℕ) → List (List ℕ) → Type 0 where
  none : {us : List (List ℕ)} → Sub [] us
  keep : {u : List ℕ} {vs us : List (List ℕ)} → Sub vs us → Sub (u ∷ vs) (u ∷ us)
  skip : {u : List ℕ} {vs us : List (List ℕ)} → Sub vs us → Sub vs (u ∷ us)

pub sub_length : {vs us : List (List ℕ)} → Sub vs us → length vs ≤ length us
sub_length none = omega arith
sub_length (keep s) = omega (arith, sub_length s)
sub_length (skip s) = omega (arith, sub_length s)

sub_any : (p : List ℕ → Bool) {vs us : List (List ℕ)} → Sub vs us → any p us ≡ false → any p vs ≡ false
unfolding any
sub_any p none e = refl
sub_any p (keep {u = u} {us = us} s) e =
    let w = or_false (p u) (any p us) e in
    ap₂ ◌||◌ w.0 (sub_any p s w.1)
sub_any p (skip {u = u} {us = us} s) e = sub_any p s (or_false (p u) (any p us) e).1

sub_pair : (p : List ℕ → List ℕ → Bool) {vs us : List (List ℕ)} → Sub vs us → any_pair p us ≡ false → any_pair p vs ≡ false
unfolding any_pair
sub_pair p none e = refl
sub_pair p (keep {u = u} {us = us} s) e =
    let w = or_false (any (p u) us) (any_pair p us) e in
    ap₂ ◌||◌ (sub_any (p u) s w.0) (sub_pair p s w.1)
sub_pair p (skip {u = u} {us = us} s) e = sub_pair p s (or_false (any (p u) us) (any_pair p us) e).1

-- 8 and 9 on an object of fields with such names.

abbrev pub name_of : Field → List ℕ
name_of f = f.name

record Called (s : List ℕ) (e : Entry) (v : List ℕ) : Type 0 where
  origin : e.origin ≡ 1
  name : spelled_name s e.member ≡ v

called_zip : (s : List ℕ) (n : ℕ) (fs : List Field) → FieldsStand s n fs → Beside (Called s) (entries_from n fs) (map name_of fs)
unfolding entries_from FieldsStand
called_zip s n [] h = tt
called_zip s n (f ∷ fs) h =
    (record { origin = refl; name = part_stands h.0.name }, called_zip s (behind_field n f) fs h.1)

entries_length : (n : ℕ) (fs : List Field) → length (entries_from n fs) ≡ length (map name_of fs)
unfolding entries_from
entries_length n [] = refl
entries_length n (f ∷ fs) = ap suc (entries_length (behind_field n f) fs)

pub object_passes : (s : List ℕ) (n : ℕ) (fs : List Field) (us : List (List ℕ)) → FieldsStand s n fs →
    Sub (map name_of fs) us → length us ≤ most_members → any_pair alike us ≡ false → Agree (object_order s (entries_from n fs)) []
unfolding object_order repeated
object_passes s n fs us h sub few apart =
    agree_append
    (agree_pass 8 (le-ltb most_members (length (entries_from n fs)) (omega (arith, entries_length n fs, sub_length sub))))
    (agree_pass 9
    (pair_beside (Called s) (same false (one_text s)) alike
    (λ e f v w x y.
    ap₂ (λ o q.
    eqb o q && alike (spelled_name (text_of (one_text s) o) e.member) (spelled_name (text_of (one_text s) q) f.member))
    x.origin y.origin
    ∙ ap₂ alike x.name y.name) (entries_from n fs) (map name_of fs) (called_zip s n fs h)
    ∙ sub_pair alike sub apart))
