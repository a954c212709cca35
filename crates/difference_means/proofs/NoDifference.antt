-- No line is in the list exactly if the messages agree: what no line says holds, since a test decides it. So a message
-- does not differ from itself.
use mathlib.Core.Path.{◌≡◌, refl, sym, subst, subst₂}
use mathlib.Core.Logic.{◌↔◌}
use mathlib.Core.List.{List, []}
use Prim.Native.Nat.{ℕ, ◌<◌}
use Rattle.prelude.specs.Limits.{header_room, list_room}
use Rattle.jwe.specs.Judge.{call}
use Rattle.meets.specs.Meets.{Message, count, Meets}
use Rattle.meets.proofs.Deciding.{eqb_where}
use Rattle.meets.proofs.Numbering.{equal_where}
use Rattle.meets.proofs.Accepted.{accepted_exactly}
use Rattle.means.specs.Means.{form_of, header_of, contents_of}
use Rattle.parameters.specs.Lines.{Side, missing, Line, line}
use Rattle.differences.specs.Differences.{compared, texts_of, whole, differences}
use Rattle.differences.specs.Differences as lists
use Rattle.differences.specs.Answers.{refusal_of}
use Rattle.difference_means.specs.Meaning.{parameters_of, RowsFor, shown_for, SaysOf, Says, forms, counts, headers}
use Rattle.difference_means.specs.Meaning.{ivs, aads}
use Rattle.difference_means.specs.Meaning.{ciphertexts, tags, keys, parameters, In, AgreeByName, Agree}
use Rattle.difference_means.proofs.InLists.{none_in}
use Rattle.difference_means.proofs.ParametersStand.{names_distinct}
use Rattle.difference_means.proofs.Holding.{holding, rows_for_lem}
use Rattle.difference_means.proofs.LinesSay.{lines_say}
use Rattle.difference_means.proofs.ByName.{stable, agree_silent, silent_agree, agree_themselves}

module _ (left right known : List ℕ) (m : Meets (call left known 0 header_room list_room))
    (k : Meets (call right known 0 header_room list_room)) where
  abbrev f : Message m.list.names left
  f = m.form

  abbrev g : Message k.list.names right
  g = k.form

  x : RowsFor m.form
  x = rows_for_lem left known m

  y : RowsFor k.form
  y = rows_for_lem right known k

  agreed : Agree f g → (l : Line) → Says f g x y l → ⊥
  agreed a l (forms d e) = d a.form
  agreed a l (counts d e) = d a.recipients
  agreed a l (headers d e) = d a.header
  agreed a l (ivs d e) = d a.iv
  agreed a l (aads d e) = d a.aad
  agreed a l (ciphertexts d e) = d a.ciphertext
  agreed a l (tags d e) = d a.tag
  agreed a l (keys n b c d e) = d (a.key n b c)
  agreed a l (parameters n b c s) =
      agree_silent (shown_for f x n b) (shown_for g y n c) n l (names_distinct g n c) (a.parameters n b c) s

  module _ (silent : (l : Line) → Says m.form k.form x y l → ⊥) where
    parameters_agree : (n : ℕ) → n < count f → n < count g → AgreeByName (parameters_of f n) (parameters_of g n)
    parameters_agree n b c =
        let h = holding left known m n b (x.rows n b) (x.apply n b) in
        let i = holding right known k n c (y.rows n c) (y.apply n c) in
        silent_agree (texts_of (compared left)) (texts_of (compared right)) n (parameters_of f n) (parameters_of g n)
        (lists.parameters_of (compared left) n) (lists.parameters_of (compared right) n) h.stand i.stand
        (subst₂ (λ (u v : List Side). (l : Line) →
        SaysOf (record { parameters = parameters_of f n; sides = u })
        (record { parameters = parameters_of g n; sides = v }) n l → ⊥)
        (sym h.sides) (sym i.sides) (λ l s. silent l (parameters n b c s)))

    agree : Agree m.form k.form
    agree = record {
      form = stable _ (eqb_where (form_of f) (form_of g)) (λ d. silent (whole 0) (forms d refl));
      recipients = stable _ (eqb_where (count f) (count g)) (λ d. silent (whole 1) (counts d refl));
      header = stable _ (equal_where (header_of f) (header_of g)) (λ d. silent (whole 2) (headers d refl));
      iv = stable _ (equal_where (contents_of f 0).iv (contents_of g 0).iv) (λ d. silent (whole 3) (ivs d refl));
      aad = stable _ (equal_where (contents_of f 0).aad (contents_of g 0).aad) (λ d. silent (whole 4) (aads d refl));
      ciphertext =
          stable _ (equal_where (contents_of f 0).ciphertext (contents_of g 0).ciphertext)
          (λ d. silent (whole 5) (ciphertexts d refl));
      tag = stable _ (equal_where (contents_of f 0).tag (contents_of g 0).tag) (λ d. silent (whole 6) (tags d refl));
      key = λ n b c.
          stable _ (equal_where (contents_of f n).key (contents_of g n).key)
          (λ d. silent (line 7 n missing missing) (keys n b c d refl));
      parameters = parameters_agree;
    }

  pub no_difference : (differences (compared left) (compared right) ≡ []) ↔ Agree m.form k.form
  no_difference = (
    (λ e. agree (λ l s. subst (In l) e ((lines_say left right known m k x y l).1 s))),
    (λ a.
        none_in (differences (compared left) (compared right))
        (λ l i. agreed a l ((lines_say left right known m k x y l).0 i))),
  )

-- A message agrees with itself.
agree_itself : {known : List (List ℕ)} {message : List ℕ} (f : Message known message) → Agree f f
agree_itself f = record {
  form = refl;
  recipients = refl;
  header = refl;
  iv = refl;
  aad = refl;
  ciphertext = refl;
  tag = refl;
  key = λ n a b. refl;
  parameters = λ n a b. agree_themselves (parameters_of f n);
}

pub same_message : (message known : List ℕ) → refusal_of message known ≡ 0 →
    differences (compared message) (compared message) ≡ []
same_message message known e =
    let m = (accepted_exactly (call message known 0 header_room list_room)).0 e in
    (no_difference message message known m m).1 (agree_itself m.form)
