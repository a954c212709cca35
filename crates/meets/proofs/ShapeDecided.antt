-- Refusal 10 on objects: the tests on the top level, on `recipients` and on an element decide their shapes.
use mathlib.Core.Path.{◌≡◌, refl, ap, sym, ◌∙◌}
use mathlib.Core.Bool.{Bool, true, false, ◌||◌, not, ◌&&◌, true≢false, false≢true}
use mathlib.Core.Logic.{◌↔◌}
use mathlib.Core.List.{List, [], ◌∷◌}
use Prim.Native.Nat.{ℕ}
use native.Mathlib.Omega.{arith}
use lib.ListN.{length}
use lib.Dec.{eqb}
use borrow.Author.Tests.{eqb-true, eq-eqb}
use Rattle.prelude.specs.Ascii.{ascii}
use Rattle.grammar.specs.Grammar.{Value}
use Rattle.grammar.specs.Places.{kind, Place, Element}
use Rattle.grammar.specs.Strings.{HasOctets}
use Rattle.grammar.specs.Bounds.{Every}
use Rattle.grammar.specs.Reader.{elements_at}
use Rattle.prelude.specs.Any.{any}
use Rattle.rows.specs.Rows.{Entry, numbered, present, value_of}
use Rattle.jose.specs.HeaderRules.{is_empty}
use Rattle.shape.specs.Shape.{wrong_member, wrong_in_element, wrong_top, wrong_element, no_object, wrong_elements}
use Rattle.meets.specs.Members.{Member, elements_of, Absent}
use Rattle.meets.specs.Rules.{EveryNamed, Present}
use Rattle.meets.specs.Meets.{Plain, Header, Recipients, RecipientShape, TopShape}
use Rattle.meets.proofs.OneForOne.{OneForOne}
use Rattle.meets.proofs.Standing.{ElementStands}
use Rattle.meets.proofs.Rows.{elements_stand}
use Rattle.meets.proofs.Saying.{refuted}
use Rattle.meets.proofs.Deciding.{TrueWhere, FalseWhere, not_where, neither, where_asked}
use Rattle.meets.proofs.Deciding.{every_map, every_both, every_where, some_where}
use Rattle.meets.proofs.MemberEntries.{Held, IsMember, header_number, key_number, recipients_number}
use Rattle.meets.proofs.MemberEntries.{ciphertext_number}
use Rattle.meets.proofs.Shapes.{Field, Whole, IsArray, Shaped, numbered_as, member_where, element_member_where}
use Rattle.meets.proofs.Lookups.{Lookup, missing, single, of_only, only_of}

-- Whether a name is there

module _ (message : List ℕ) (ps : List Member) (es : List Entry) (z : OneForOne (Held message) ps es) where
  module _ (n : ℕ) (w : List ℕ) (i : IsMember n w) where
    pub present_where : TrueWhere (present n es) (Present w ps)
    unfolding present
    present_where =
        some_where (Held message) (λ m. HasOctets m.name w) (numbered n) ps es
        (λ p e r. numbered_as message p e r n w i) z

    pub absent_where : FalseWhere (present n es) (Absent w ps)
    unfolding present
    absent_where =
        every_where (Held message) (λ m. HasOctets m.name w → ⊥) (numbered n) ps es
        (λ p e r. refuted (numbered n e) (numbered_as message p e r n w i)) z

  -- 10 on an element of `recipients`.
  pub element_shape_decided : (wrong_element message es ≡ false) ↔ RecipientShape ps
  unfolding wrong_element
  element_shape_decided =
      let key = Field (ascii "encrypted_key") Whole in
      let header = Field (ascii "header") Header in
      let both = every_both key header ps in
      let w = every_where (Held message) (λ m. key m × header m) (wrong_in_element message) ps es
      (element_member_where message) z in (
        (λ e. let h = both.0 (w.0 e) in record { key = h.0; header = h.1 }),
        (λ r. w.1 (both.1 (r.key, r.header))),
      )

  -- 10 on the top level, the elements of `recipients` aside.
  abbrev pub Top : Type 0
  Top =
      Every Shaped ps
      × (Present (ascii "ciphertext") ps
      × (Present (ascii "recipients") ps → Absent (ascii "header") ps × Absent (ascii "encrypted_key") ps))

  pub top_where : FalseWhere (wrong_top message es) Top
  unfolding wrong_top
  top_where =
      let c = present 8 es in
      let r = present 5 es in
      let h = present 3 es in
      let k = present 4 es in
      neither (any (wrong_member message) es) (not c || (r && (h || k)))
      (every_where (Held message) Shaped (wrong_member message) ps es (member_where message) z)
      (neither (not c) (r && (h || k))
      (not_where c (present_where 8 (ascii "ciphertext") ciphertext_number))
      (where_asked r (h || k) (present_where 5 (ascii "recipients") recipients_number)
      (λ p.
      neither h k (absent_where 3 (ascii "header") header_number)
      (absent_where 4 (ascii "encrypted_key") key_number))))

-- The elements of an array

empty_where : (message : List ℕ) (vs : List Value) (xs : List Element) → OneForOne (ElementStands message) vs xs →
    FalseWhere (is_empty xs) (vs ≡ [] → ⊥)
empty_where message [] [] z = ((λ e. absurd (true≢false e)), (λ n. absurd (n refl)))
empty_where message [] (x ∷ xs) z = absurd z
empty_where message (v ∷ vs) [] z = absurd z
empty_where message (v ∷ vs) (x ∷ xs) z = ((λ e p. omega (arith, ap length p)), (λ n. refl))

elements_where : (message : List ℕ) (vs : List Value) (xs : List Element) → OneForOne (ElementStands message) vs xs →
    FalseWhere (wrong_elements xs) ((vs ≡ [] → ⊥) × Every (λ x. kind x ≡ 0) vs)
unfolding wrong_elements
elements_where message vs xs z =
    neither (is_empty xs) (any no_object xs) (empty_where message vs xs z)
    (every_where (ElementStands message) (λ x. kind x ≡ 0) no_object vs xs
    (λ v x r.
    not_where (eqb x.kind 0)
    ((λ e. sym r.kinds ∙ eqb-true x.kind 0 e), (λ e. eq-eqb x.kind 0 (r.kinds ∙ e))))
    z)

-- 10 on `recipients` itself, where there is one: an array whose elements are objects.
pub recipients_shape_decided : (message : List ℕ) (ps : List Member) (q : Place) (b : Bool) →
    Lookup message (ascii "recipients") ps q b → EveryNamed (ascii "recipients") IsArray ps →
    (b ≡ true → wrong_elements (elements_at 12 message q.start) ≡ false)
    ↔ EveryNamed (ascii "recipients") Recipients ps
recipients_shape_decided message ps q b (missing t a e) arrays = (
  (λ f.
      every_map (λ m. HasOctets m.name (ascii "recipients") → ⊥)
      (λ m. HasOctets m.name (ascii "recipients") → Recipients m.value) (λ m n h. absurd (n h)) ps a),
  (λ h u. absurd (false≢true (sym t ∙ u))),
)
recipients_shape_decided message ps q b (single v t o) arrays =
    let k = of_only message (ascii "recipients") ps q v o IsArray arrays in
    let w = elements_where message (elements_of v) (elements_at 12 message q.start)
    (elements_stand message v q.start q.size o.stands k) in (
      (λ f.
          let h = w.0 (f t) in
          only_of message (ascii "recipients") ps q v o Recipients (k, h.0, h.1)),
      (λ h u. let r = of_only message (ascii "recipients") ps q v o Recipients h in w.1 (r.1, r.2)),
    )

-- The top level

all_shaped : (ms : List Member) → EveryNamed (ascii "encrypted_key") Whole ms → EveryNamed (ascii "header") Header ms →
    EveryNamed (ascii "protected") Whole ms → EveryNamed (ascii "iv") Whole ms → EveryNamed (ascii "aad") Whole ms →
    EveryNamed (ascii "tag") Whole ms → EveryNamed (ascii "ciphertext") Plain ms →
    EveryNamed (ascii "unprotected") Header ms → EveryNamed (ascii "recipients") IsArray ms → Every Shaped ms
all_shaped [] a b c d e f g h i = tt
all_shaped (m ∷ ms) a b c d e f g h i = (
  (a.0, (b.0, (c.0, (d.0, (e.0, (f.0, (g.0, (h.0, i.0)))))))),
  all_shaped ms a.1 b.1 c.1 d.1 e.1 f.1 g.1 h.1 i.1,
)

module _ (message : List ℕ) (ps : List Member) (es : List Entry) (z : OneForOne (Held message) ps es) where
  pub top_arrays : Every Shaped ps → EveryNamed (ascii "recipients") IsArray ps
  top_arrays s = every_map Shaped (Field (ascii "recipients") IsArray) (λ m f. f.1.1.1.1.1.1.1.1) ps s

  pub top_recipient : Every Shaped ps → RecipientShape ps
  top_recipient s = record {
    key = every_map Shaped (Field (ascii "encrypted_key") Whole) (λ m f. f.0) ps s;
    header = every_map Shaped (Field (ascii "header") Header) (λ m f. f.1.0) ps s;
  }

  -- 10 on the top level and on `recipients`.
  pub top_shape_decided : Lookup message (ascii "recipients") ps (value_of 5 es) (present 5 es) →
      ((wrong_top message es ≡ false)
      × (present 5 es ≡ true → wrong_elements (elements_at 12 message (value_of 5 es).start) ≡ false))
      ↔ TopShape ps
  top_shape_decided l =
      let top = top_where message ps es z in
      let inside = recipients_shape_decided message ps (value_of 5 es) (present 5 es) l in (
        (λ e.
            let h = top.0 e.0 in
            let s = h.0 in record {
              recipient = top_recipient s;
              protected = every_map Shaped (Field (ascii "protected") Whole) (λ m f. f.1.1.0) ps s;
              iv = every_map Shaped (Field (ascii "iv") Whole) (λ m f. f.1.1.1.0) ps s;
              aad = every_map Shaped (Field (ascii "aad") Whole) (λ m f. f.1.1.1.1.0) ps s;
              tag = every_map Shaped (Field (ascii "tag") Whole) (λ m f. f.1.1.1.1.1.0) ps s;
              ciphertext = every_map Shaped (Field (ascii "ciphertext") Plain) (λ m f. f.1.1.1.1.1.1.0) ps s;
              unprotected =
                  every_map Shaped (Field (ascii "unprotected") Header) (λ m f. f.1.1.1.1.1.1.1.0) ps s;
              recipients = (inside (top_arrays s)).0 e.1;
              present = h.1.0;
              general = h.1.1;
            }),
        (λ t.
            let arrays = every_map (Field (ascii "recipients") Recipients) (Field (ascii "recipients") IsArray)
            (λ m f h. (f h).0) ps t.recipients in (
              top.1 (
                all_shaped ps t.recipient.key t.recipient.header t.protected t.iv t.aad t.tag
                    t.ciphertext t.unprotected arrays,
                (t.present, t.general),
              ),
              (inside arrays).1 t.recipients,
            )),
      )
