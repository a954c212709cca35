-- There are few lines: a left parameter gives two only if it has a partner, which then gives none, names being
-- distinct.
use mathlib.Core.Path.{◌≡◌, refl, sym, ap, subst, ◌∙◌}
use mathlib.Core.Bool.{Bool, true, false, not, cond}
use mathlib.Core.Logic.{inl, inr}
use mathlib.Core.List.{List, [], ◌∷◌, ◌++◌, flat_map}
use mathlib.Core.Option.{Option, none, some}
use Prim.Native.Nat.{ℕ, zero, suc, ◌+◌, ◌*◌, ◌≤◌, ◌<◌, min}
use native.Mathlib.Omega.{arith}
use native.Mathlib.Nat.{mul-suc, mul-zero}
use lib.ListN.{length, length-append, length-map}
use lib.Dec.{eqb}
use Rattle.prelude.specs.Limits.{header_room, list_room, most_members, most_recipients}
use Rattle.grammar.specs.Strings.{SayAlike}
use Rattle.grammar.specs.Spellings.{equal}
use Rattle.grammar.specs.Bounds.{Every}
use Rattle.rows.specs.Rows.{Entry, Texts, name_in, name_says}
use Rattle.jwe.specs.Judge.{call, held}
use Rattle.meets.specs.Members.{Member, Some, Distinct}
use Rattle.meets.specs.Meets.{Recipient, Message, compact, json, count, Meets}
use Rattle.meets.proofs.OneForOne.{zip_length}
use Rattle.meets.proofs.Deciding.{every_map}
use Rattle.means.specs.Means.{own_of, headers_of}
use Rattle.matching.specs.Matching.{partner}
use Rattle.parameters.specs.Lines.{missing, Line, line, line_if}
use Rattle.parameters.specs.Parameters.{side_of, other_value, pair_lines, left_lines, only_right, right_lines, parameter_lines}
use Rattle.differences.specs.Differences.{Compared, compared, texts_of, other_component, whole, message_lines, key_lines}
use Rattle.differences.specs.Differences.{recipient_lines, up_to, differences}
use Rattle.differences.specs.Differences as lists
use Rattle.difference_means.specs.Meaning.{Parameter, parameters_of, most_lines}
use Rattle.difference_means.proofs.Partners.{StandsFor, names_in, Stand, met, says_where, partner_none}
use Rattle.difference_means.proofs.Partners.{partner_some, every_named}
use Rattle.difference_means.proofs.ParameterLines.{left_with, right_with}
use Rattle.difference_means.proofs.Holding.{holding, rows_for_lem}

-- At most so many lines; the record keeps the list.
record AtMost (n : ℕ) (ls : List Line) : Type 0 where
  is : length ls ≤ n

one : (b : Bool) (l : Line) → AtMost 1 (line_if b l)
one true l = record { is = omega arith }
one false l = record { is = omega arith }

then : {m n : ℕ} {xs ys : List Line} → AtMost m xs → AtMost n ys → AtMost (m + n) (xs ++ ys)
then {m} {n} {xs} {ys} a b = record { is = omega (arith, length-append xs ys) }

-- Lists of lines put together, by how many each entry gives.
module _ (g h : Entry → List Line) (less : (e : Entry) → length (g e) ≤ length (h e)) where
  each_less : (es : List Entry) → length (flat_map g es) ≤ length (flat_map h es)
  unfolding flat_map
  each_less [] = omega arith
  each_less (e ∷ es) =
      omega (arith, less e, each_less es, length-append (g e) (flat_map g es), length-append (h e) (flat_map h es))

  -- One gives fewer.
  one_less : (r : Entry) → length (g r) < length (h r) → (es : List Entry) → Some (λ e. r ≡ e) es →
      length (flat_map g es) < length (flat_map h es)
  unfolding flat_map
  one_less r k [] s = absurd s
  one_less r k (e ∷ es) (inl s) =
      let j = subst (λ (c : Entry). length (g c) < length (h c)) s k in
      omega (arith, each_less es, length-append (g e) (flat_map g es), length-append (h e) (flat_map h es))
  one_less r k (e ∷ es) (inr s) =
      omega (arith, less e, one_less r k es s, length-append (g e) (flat_map g es), length-append (h e) (flat_map h es))

-- At most one line an entry.
each_one : (g : Entry → List Line) → ((e : Entry) → length (g e) ≤ 1) → (es : List Entry) →
    length (flat_map g es) ≤ length es
unfolding flat_map
each_one g h [] = omega arith
each_one g h (e ∷ es) = omega (arith, h e, each_one g h es, length-append (g e) (flat_map g es))

-- As many for each number below another.
up_to_few : (h : ℕ → List Line) (c m : ℕ) → ((n : ℕ) → n < m → length (h n) ≤ c) → length (up_to h m) ≤ c * m
unfolding up_to
up_to_few h c zero k = omega (arith, mul-zero c)
up_to_few h c (suc m) k =
    omega (
      arith,
      mul-suc c m,
      k m (omega arith),
      up_to_few h c m (λ n l. k n (omega arith)),
      length-append (up_to h m) (h m),
    )

-- One recipient's
module _ (ls rs : Texts) (n : ℕ) (qs : List Parameter) (fs : List Entry) (zr : Stand rs qs fs) where
  only_few : (f : Entry) (o : Option Entry) → length (only_right n f o) ≤ 1
  only_few f none = omega arith
  only_few f (some e) = omega arith

  pair_few : (e : Entry) (b : Bool) (f : Entry) → AtMost 2 (pair_lines n e b (some f))
  pair_few e b f =
      then (one (not (eqb e.origin f.origin)) (line 10 n (side_of e) (side_of f)))
      (one b (line 11 n (side_of e) (side_of f)))

  right_few : (es : List Entry) (f : Entry) → length (right_lines ls rs es n f) ≤ 1
  unfolding right_lines
  right_few es f = only_few f (partner ls (name_in rs f) es)

  -- With one more left entry there are no more lines of right ones ..
  right_less : (e : Entry) (es : List Entry) (f : Entry) →
      length (right_lines ls rs (e ∷ es) n f) ≤ length (right_lines ls rs es n f)
  unfolding right_lines partner
  right_less e es f = cases (name_says ls (name_in rs f) e)
    where
      cases : (b : Bool) →
          length (only_right n f (cond b (some e) (partner ls (name_in rs f) es)))
          ≤ length (only_right n f (partner ls (name_in rs f) es))
      cases true = omega arith
      cases false = omega arith

  -- .. and fewer where it has a partner, which no other left entry has.
  module _ (p : Parameter) (ps : List Parameter) (e : Entry) (es : List Entry) (hp : StandsFor ls p e)
      (zl : Stand ls ps es) (d : Every (λ y. SayAlike p.name y → ⊥) (names_in ps)) where
    taken : (q : Parameter) (r : Entry) → StandsFor rs q r → SayAlike p.name q.name →
        length (right_lines ls rs (e ∷ es) n r) < length (right_lines ls rs es n r)
    unfolding partner
    taken q r hq s =
        let w = name_in rs r in
        let here : partner ls w (e ∷ es) ≡ some e =
        ap (λ (b : Bool). cond b (some e) (partner ls w es))
        ((says_where ls w q.name hq.spells p e hp).1 (sym s)) in
        let gone : partner ls w es ≡ none =
        (partner_none ls w q.name hq.spells ps es zl).1
        (every_map (λ t. SayAlike p.name t.name → ⊥) (λ t. SayAlike q.name t.name → ⊥) (λ t k u. k (s ∙ u))
        ps (every_named (λ y. SayAlike p.name y → ⊥) ps d)) in
        omega (
          arith,
          ap length (right_with ls rs (e ∷ es) n r (some e) here),
          ap length (right_with ls rs es n r none gone),
        )

    step : length (left_lines ls rs fs n e) + length (flat_map (right_lines ls rs (e ∷ es) n) fs)
        ≤ 1 + length (flat_map (right_lines ls rs es n) fs)
    step = cases (partner rs (name_in ls e) fs) refl
      where
        cases : (o : Option Entry) → partner rs (name_in ls e) fs ≡ o →
            length (left_lines ls rs fs n e) + length (flat_map (right_lines ls rs (e ∷ es) n) fs)
            ≤ 1 + length (flat_map (right_lines ls rs es n) fs)
        cases none h =
            omega (
              arith,
              ap length (left_with ls rs fs n e none h),
              each_less (right_lines ls rs (e ∷ es) n) (right_lines ls rs es n) (right_less e es) fs,
            )
        cases (some f) h =
            let (q, hq, s, k) = partner_some rs (name_in ls e) p.name hp.spells qs fs zr f h in
            let r = met rs qs fs zr q (side_of f) k in
            omega (
              arith,
              ap length (left_with ls rs fs n e (some f) h),
              (pair_few e (other_value ls rs e (some f)) f).is,
              one_less (right_lines ls rs (e ∷ es) n) (right_lines ls rs es n) (right_less e es) r.entry
                  (taken q r.entry r.stands s) fs r.there,
            )

  counted : (ps : List Parameter) (es : List Entry) → Stand ls ps es → Distinct (names_in ps) →
      length (flat_map (left_lines ls rs fs n) es) + length (flat_map (right_lines ls rs es n) fs) ≤ length es + length fs
  unfolding flat_map
  counted [] [] z d = omega (arith, each_one (right_lines ls rs [] n) (right_few []) fs)
  counted [] (e ∷ es) z d = absurd z
  counted (p ∷ ps) [] z d = absurd z
  counted (p ∷ ps) (e ∷ es) z d =
      omega (
        arith,
        counted ps es z.1 d.1,
        step p ps e es z.0 z.1 d.0,
        length-append (left_lines ls rs fs n e) (flat_map (left_lines ls rs fs n) es),
      )

  parameters_few : (ps : List Parameter) (es : List Entry) → Stand ls ps es → Distinct (names_in ps) →
      length (parameter_lines ls rs es fs n) ≤ length ps + length qs
  unfolding parameter_lines
  parameters_few ps es z d =
      omega (
        arith,
        counted ps es z d,
        zip_length (StandsFor ls) ps es z,
        zip_length (StandsFor rs) qs fs zr,
        length-append (flat_map (left_lines ls rs fs n) es) (flat_map (right_lines ls rs es n) fs),
      )

-- How many parameters and recipients a message has

own_few : (rs : List (List Member)) (each : Every Recipient rs) (n : ℕ) → length (own_of rs each n) ≤ most_members
unfolding own_of
own_few [] each n = omega arith
own_few (r ∷ rs) each zero = each.0.own_object.few
own_few (r ∷ rs) each (suc n) = own_few rs each.1 n

module _ {known : List (List ℕ)} {message : List ℕ} where
  of_few : (f : Message known message) (n : ℕ) →
      (length (headers_of f n).protected ≤ most_members)
      × (length (headers_of f n).shared ≤ most_members)
      × (length (headers_of f n).own ≤ most_members)
  of_few (compact c) n = (c.object.few, omega arith, omega arith)
  of_few (json j) n = (j.protected_object.few, j.shared_object.few, own_few j.recipients j.each n)

  of_all : (f : Message known message) (n : ℕ) → length (parameters_of f n) ≤ 3 * most_members
  of_all f n =
      let (a, b, c) = of_few f n in
      simp (length-append, length-map) (omega arith)

  recipients_few : (f : Message known message) → count f ≤ most_recipients
  recipients_few (compact c) = omega arith
  recipients_few (json j) = j.few

module _ (left right : List ℕ) where
  abbrev l : Compared
  l = compared left

  abbrev r : Compared
  r = compared right

  message_few : AtMost 7 (message_lines (compared left) (compared right))
  unfolding message_lines
  message_few =
      let q = l.holds.components in
      let p = r.holds.components in
      then (one (not (eqb l.holds.form r.holds.form)) (whole 0))
      (then (one (not (eqb l.holds.recipients r.holds.recipients)) (whole 1))
      (then (one (not (equal l.holds.header r.holds.header)) (whole 2))
      (then (one (other_component l q.iv r p.iv) (whole 3))
      (then (one (other_component l q.aad r p.aad) (whole 4))
      (then (one (other_component l q.ciphertext r p.ciphertext) (whole 5))
      (one (other_component l q.tag r p.tag) (whole 6)))))))

  key_few : (n : ℕ) → AtMost 1 (key_lines (compared left) (compared right) n)
  unfolding key_lines
  key_few n = one (other_component l (l.holds.share n).key r (r.holds.share n).key) (line 7 n missing missing)

module _ (left right known : List ℕ) (m : Meets (call left known 0 header_room list_room))
    (k : Meets (call right known 0 header_room list_room)) where
  recipient_few : (n : ℕ) → n < count m.form → n < count k.form →
      length (recipient_lines (compared left) (compared right) n) ≤ 6 * most_members
  unfolding recipient_lines
  recipient_few n a b =
      let x = rows_for_lem left known m in
      let y = rows_for_lem right known k in
      let h = holding left known m n a (x.rows n a) (x.apply n a) in
      let i = holding right known k n b (y.rows n b) (y.apply n b) in
      omega (
        arith,
        of_all m.form n,
        of_all k.form n,
        parameters_few (texts_of (compared left)) (texts_of (compared right)) n (parameters_of k.form n)
            (lists.parameters_of (compared right) n) i.stand (parameters_of m.form n)
            (lists.parameters_of (compared left) n) h.stand h.distinct,
      )

  pub few_lines : length (differences (compared left) (compared right)) ≤ most_lines
  unfolding differences
  few_lines =
      let x = rows_for_lem left known m in
      let y = rows_for_lem right known k in
      let h = (holding left known m 0 m.asked (x.rows 0 m.asked) (x.apply 0 m.asked)).recipients in
      let i = (holding right known k 0 k.asked (y.rows 0 k.asked) (y.apply 0 k.asked)).recipients in
      let both = min (held left).recipients (held right).recipients in
      let ks = up_to (key_lines (compared left) (compared right)) both in
      let ps = up_to (recipient_lines (compared left) (compared right)) both in
      omega (
        arith,
        recipients_few m.form,
        (message_few left right).is,
        up_to_few (key_lines (compared left) (compared right)) 1 both (λ n l. (key_few left right n).is),
        up_to_few (recipient_lines (compared left) (compared right)) (6 * most_members) both
            (λ n l. recipient_few n (omega arith) (omega arith)),
        length-append (message_lines (compared left) (compared right)) (ks ++ ps),
        length-append ks ps,
      )
