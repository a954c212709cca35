-- The lines of one recipient's parameters say what they mean: each is that of an entry and its partner, which stand for
-- parameters.
use mathlib.Core.Path.{◌≡◌, refl, sym, ap, ap₂, subst, ◌∙◌}
use mathlib.Core.Bool.{not}
use mathlib.Core.Logic.{◌↔◌, ◌⊎◌, inl, inr}
use mathlib.Core.List.{List, flat_map, map}
use mathlib.Core.Option.{Option, none, some}
use Prim.Native.Nat.{ℕ}
use lib.Dec.{eqb}
use Rattle.rows.specs.Rows.{Entry, Texts, text_of, name_in}
use Rattle.meets.specs.Members.{Distinct}
use Rattle.meets.proofs.Deciding.{TrueWhere, not_none_where, eqb_where, some_map}
use Rattle.same.specs.Same.{depth, same_at}
use Rattle.same_values.specs.Same.{Same}
use Rattle.same_values.proofs.Theorems.{same_decided}
use Rattle.matching.specs.Matching.{partner}
use Rattle.parameters.specs.Lines.{Side, missing, Line, line, line_if}
use Rattle.parameters.specs.Parameters.{value_of, side_of, other_value, pair_lines, left_lines, only_right, right_lines}
use Rattle.parameters.specs.Parameters.{parameter_lines}
use Rattle.difference_means.specs.Meaning.{Parameter, Shown, Has, SaysOf, only_left, moved, others, In}
use Rattle.difference_means.specs.Meaning as meaning
use Rattle.difference_means.proofs.InLists.{in_append, in_each, in_one, in_if}
use Rattle.difference_means.proofs.Partners.{StandsFor, names_in, Stand, found, met, partner_none, partner_some}
use Rattle.difference_means.proofs.Partners.{partner_only}

-- Parameters and the sides of the entries that stand for them.
abbrev pub shown_as : List Parameter → List Entry → Shown
shown_as ps es = record { parameters = ps; sides = map side_of es }

-- Tests on two entries that stand for parameters.
module _ (ls rs : Texts) (p q : Parameter) (e f : Entry) (hp : StandsFor ls p e) (hq : StandsFor rs q f) where
  pub origin_where : TrueWhere (eqb e.origin f.origin) (p.origin ≡ q.origin)
  origin_where =
      let t = eqb_where e.origin f.origin in
      ((λ b. sym hp.origin ∙ t.0 b ∙ hq.origin), (λ b. t.1 (hp.origin ∙ b ∙ sym hq.origin)))

  pub value_where : TrueWhere (same_at depth (text_of ls e.origin) (text_of rs f.origin) (value_of e) (value_of f))
      (Same p.value q.value)
  value_where =
      same_decided (text_of ls e.origin) (text_of rs f.origin) depth p.value q.value (value_of e) (value_of f)
      hp.shallow hp.stands hq.stands

-- The lines of an entry, by its partner.

pub left_with : (ls rs : Texts) (fs : List Entry) (n : ℕ) (e : Entry) (o : Option Entry) →
    partner rs (name_in ls e) fs ≡ o → left_lines ls rs fs n e ≡ pair_lines n e (other_value ls rs e o) o
unfolding left_lines
left_with ls rs fs n e o h = ap (λ (p : Option Entry). pair_lines n e (other_value ls rs e p) p) h

pub right_with : (ls rs : Texts) (es : List Entry) (n : ℕ) (f : Entry) (o : Option Entry) →
    partner ls (name_in rs f) es ≡ o → right_lines ls rs es n f ≡ only_right n f o
unfolding right_lines
right_with ls rs es n f o h = ap (only_right n f) h

module _ (ls rs : Texts) (n : ℕ) (ps qs : List Parameter) (es fs : List Entry) (zl : Stand ls ps es)
    (zr : Stand rs qs fs) (l : Line) where
  abbrev left : Shown
  left = shown_as ps es

  abbrev right : Shown
  right = shown_as qs fs

  -- The lines of an entry and its partner.
  module _ (p : Parameter) (e : Entry) (hp : StandsFor ls p e) where
    abbrev lines_with : Option Entry → List Line
    lines_with o = pair_lines n e (other_value ls rs e o) o

    pair_with : (q : Parameter) (f : Entry) → StandsFor rs q f →
        In l (lines_with (some f))
        ↔ (((p.origin ≡ q.origin → ⊥) × (l ≡ line 10 n (side_of e) (side_of f)))
        ⊎ ((Same p.value q.value → ⊥) × (l ≡ line 11 n (side_of e) (side_of f))))
    unfolding other_value
    pair_with q f hq =
        in_append l (line_if (not (eqb e.origin f.origin)) _) _
        (in_if l (not (eqb e.origin f.origin)) _ (not_none_where _ (origin_where ls rs p q e f hp hq)))
        (in_if l (other_value ls rs e (some f)) _ (not_none_where _ (value_where ls rs p q e f hp hq)))

    left_says : Has left p (side_of e) → In l (left_lines ls rs fs n e) → SaysOf left right n l
    left_says m i = cases (partner rs (name_in ls e) fs) refl
      where
        cases : (o : Option Entry) → partner rs (name_in ls e) fs ≡ o → SaysOf left right n l
        cases none h =
            only_left p (side_of e) m ((partner_none rs (name_in ls e) p.name hp.spells qs fs zr).0 h)
            ((in_one l _).0 (subst (In l) (left_with ls rs fs n e none h) i))
        cases (some f) h =
            let (q, hq, s, k) = partner_some rs (name_in ls e) p.name hp.spells qs fs zr f h in
            elim ((pair_with q f hq).0 (subst (In l) (left_with ls rs fs n e (some f) h) i)) [
              | inl d ↦ moved p q (side_of e) (side_of f) m k s d.0 d.1
              | inr d ↦ others p q (side_of e) (side_of f) m k s d.0 d.1
            ]

  -- The line of a right entry without a partner.
  right_says : (q : Parameter) (f : Entry) → StandsFor rs q f → Has right q (side_of f) →
      In l (right_lines ls rs es n f) →
      SaysOf left right n l
  right_says q f hq m i = cases (partner ls (name_in rs f) es) refl
    where
      cases : (o : Option Entry) → partner ls (name_in rs f) es ≡ o → SaysOf left right n l
      cases none h =
          meaning.only_right q (side_of f) m ((partner_none ls (name_in rs f) q.name hq.spells ps es zl).0 h)
          ((in_one l _).0 (subst (In l) (right_with ls rs es n f none h) i))
      cases (some e) h = absurd (subst (In l) (right_with ls rs es n f (some e) h) i)

  parameters_say : In l (parameter_lines ls rs es fs n) → SaysOf left right n l
  unfolding parameter_lines
  parameters_say i =
      elim ((in_append l (flat_map (left_lines ls rs fs n) es) _ (in_each l (left_lines ls rs fs n) es)
      (in_each l (right_lines ls rs es n) fs)).0 i) [
        | inl s ↦
            let r = found ls (λ e. In l (left_lines ls rs fs n e)) ps es zl s in
            left_says r.parameter r.entry r.stands r.there r.holds
        | inr s ↦
            let r = found rs (λ f. In l (right_lines ls rs es n f)) qs fs zr s in
            right_says r.parameter r.entry r.stands r.there r.holds
      ]

  -- The other way round.

  of_left : (p : Parameter) (a : Side) → Has left p a →
      ((e : Entry) → StandsFor ls p e → side_of e ≡ a → In l (left_lines ls rs fs n e)) →
      In l (parameter_lines ls rs es fs n)
  unfolding parameter_lines
  of_left p a m h =
      let r = met ls ps es zl p a m in
      (in_append l (flat_map (left_lines ls rs fs n) es) _ (in_each l (left_lines ls rs fs n) es)
      (in_each l (right_lines ls rs es n) fs)).1
      (inl (some_map (λ e. r.entry ≡ e) (λ e. In l (left_lines ls rs fs n e))
      (λ e s. subst (λ (c : Entry). In l (left_lines ls rs fs n c)) s (h r.entry r.stands r.side)) es
      r.there))

  of_right : (q : Parameter) (b : Side) → Has right q b →
      ((f : Entry) → StandsFor rs q f → side_of f ≡ b → In l (right_lines ls rs es n f)) →
      In l (parameter_lines ls rs es fs n)
  unfolding parameter_lines
  of_right q b m h =
      let r = met rs qs fs zr q b m in
      (in_append l (flat_map (left_lines ls rs fs n) es) _ (in_each l (left_lines ls rs fs n) es)
      (in_each l (right_lines ls rs es n) fs)).1
      (inr (some_map (λ f. r.entry ≡ f) (λ f. In l (right_lines ls rs es n f))
      (λ f s. subst (λ (c : Entry). In l (right_lines ls rs es n c)) s (h r.entry r.stands r.side)) fs
      r.there))

  -- A line of a left entry and its partner, the right one that has its name, names being distinct.
  of_pair : Distinct (names_in qs) → (p q : Parameter) (a b : Side) → Has left p a → Has right q b → meaning.Alike p q →
      ((p.origin ≡ q.origin → ⊥) × (l ≡ line 10 n a b)) ⊎ ((Same p.value q.value → ⊥) × (l ≡ line 11 n a b)) →
      In l (parameter_lines ls rs es fs n)
  of_pair d p q a b m k s c =
      of_left p a m (λ e hp i.
      let (f, h, hq, j) = partner_only rs (name_in ls e) p.name hp.spells qs fs zr d q b k s in
      subst (In l) (sym (left_with ls rs fs n e (some f) h)) ((pair_with p e hp q f hq).1
      (elim c [
        | inl t ↦ inl (t.0, t.1 ∙ ap₂ (line 10 n) (sym i) (sym j))
        | inr t ↦ inr (t.0, t.1 ∙ ap₂ (line 11 n) (sym i) (sym j))
      ])))

  said_there : Distinct (names_in qs) → SaysOf left right n l → In l (parameter_lines ls rs es fs n)
  said_there d (only_left p a m k t) =
      of_left p a m (λ e hp i.
      let h = (partner_none rs (name_in ls e) p.name hp.spells qs fs zr).1 k in
      subst (In l) (sym (left_with ls rs fs n e none h))
      ((in_one l _).1 (t ∙ ap (λ (c : Side). line 8 n c missing) (sym i))))
  said_there d (meaning.only_right q b m k t) =
      of_right q b m (λ f hq i.
      let h = (partner_none ls (name_in rs f) q.name hq.spells ps es zl).1 k in
      subst (In l) (sym (right_with ls rs es n f none h)) ((in_one l _).1 (t ∙ ap (line 9 n missing) (sym i))))
  said_there d (moved p q a b m k s o t) = of_pair d p q a b m k s (inl (o, t))
  said_there d (others p q a b m k s o t) = of_pair d p q a b m k s (inr (o, t))

  pub parameter_lines_say : Distinct (names_in qs) → In l (parameter_lines ls rs es fs n)
      ↔ SaysOf (shown_as ps es) (shown_as qs fs) n l
  parameter_lines_say d = (parameters_say, said_there d)
