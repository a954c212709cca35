-- What was kept of the entries that are all recipients' serves each recipient: a partner among the first entries is the partner among
-- all, and where there is none, it is among the others.
use Rattle.std.proofs.Common.{◌≡◌, refl, ap, sym, ◌∙◌, subst, Bool, true, false, not, ◌||◌, List, ◌++◌, Option, None, Some, IfSome, ℕ, ◌-◌, ◌+◌, ◌≤◌, ◌<◌, length, drop, arith}
use Rattle.std.specs.Option.{is_some}
use mathlib.Core.Option as lists
use Rattle.grammar.specs.Places.{Element}
use Rattle.rows.specs.Rows.{Entry, Texts, text_of, name_in}
use Rattle.rows.specs.Tables.{entries_of}
use Rattle.rows.proofs.Entries.{drop_entries, entries_split, entries_length}
use Rattle.same.specs.Same.{depth, same_at}
use Rattle.same.specs.Inner.Walking.{Reads}
use Rattle.matching.specs.declared.Side.{Side}
use Rattle.matching.specs.Matching.{partner, value_of}
use Rattle.matching.specs.Inner.Places.{nth, found, MatchedAt, EachReads}
use Rattle.matching.specs.Inner.Sides.{texts, entries, common, entry_at}
use Rattle.matching.proofs.Partners.{nth_at, or_else, partner_append, each_at}
use Rattle.parameters.specs.Parameters.{other_value}
use Rattle.parameters.specs.Inner.Kept.{there, Pairs}
use Rattle.parameters.specs.declared.Pair.{Pair}

-- The value of an entry reads where the code has found it.
pub reads_at : (s : Side) (i : ℕ) → i < s.count → EachReads (texts s) (entries s) → {x : List ℕ} {a : Element} → x ≡ text_of (texts s) (entry_at s i).origin →
    a ≡ value_of (entry_at s i) → Reads x a
reads_at s i h all {x} {a} e f =
    let r : Reads (text_of (texts s) (entry_at s i).origin) (value_of (entry_at s i)) =
    (each_at (texts s) i s.count s.table.now h all).reads in
    subst (λ (b : Element). Reads x b) (sym f) (subst (λ (t : List ℕ). Reads t (value_of (entry_at s i))) (sym e) r)

-- Two values that the code has found and compared.
pub compared : (l r : Side) (i j : ℕ) → j < r.count → {s t : List ℕ} {a b : Element} {same : Bool} →
    s ≡ text_of (texts l) (entry_at l i).origin → t ≡ text_of (texts r) (entry_at r j).origin → a ≡ value_of (entry_at l i) →
    b ≡ value_of (entry_at r j) → same ≡ same_at depth s t a b →
    not same ≡ other_value (texts l) (texts r) (entry_at l i) (nth (entries r) j)
unfolding other_value
compared l r i j h {s} {t} {a} {b} {same} e f g k is =
    let values : same_at depth s t a b
    ≡ same_at depth (text_of (texts l) (entry_at l i).origin) (text_of (texts r) (entry_at r j).origin) (value_of (entry_at l i)) (value_of (entry_at r j)) = cc in
    ap not (is ∙ values) ∙ sym (ap (other_value (texts l) (texts r) (entry_at l i)) (nth_at j r.count r.table.now h))

there_or : (x y : lists.Option Entry) → there (or_else x y) ≡ there x || there y
there_or lists.none y = refl
there_or (lists.some e) y = refl

module _ (s : Side) where
  -- The first entries, and the others.
  front_split : entries s ≡ common s ++ drop s.common (entries s)
  front_split =
      let few : s.common ≤ s.count = s.few in
      let sum : s.count ≡ s.common + (s.count - s.common) = omega arith in
      ap (λ (n : ℕ). entries_of n s.table.now) sum ∙ entries_split s.common (s.count - s.common) s.table.now
      ∙ ap (λ (l : List Entry). common s ++ l) (sym (drop_entries s.common s.count s.table.now))

  partner_split : (w : List ℕ) →
      partner (texts s) w (entries s) ≡ or_else (partner (texts s) w (common s)) (partner (texts s) w (drop s.common (entries s)))
  partner_split w = ap (partner (texts s) w) front_split ∙ partner_append (texts s) w (common s) (drop s.common (entries s))

  -- Whether there is one, by what was found.
  pub there_found : (o : Option ℕ) {x : lists.Option Entry} {b : Bool} → IfSome o (λ j. j < s.count) → x ≡ found (entries s) o →
      b ≡ is_some o → b ≡ there x
  there_found None h p e = e ∙ sym (ap there p)
  there_found (Some j) h p e = e ∙ sym (ap there (p ∙ nth_at j s.count s.table.now h))

  -- The same among the first ones.
  pub there_kept : (o : Option ℕ) {x : lists.Option Entry} {b : Bool} → IfSome o (λ j. j < length (common s)) → x ≡ found (common s) o →
      b ≡ is_some o → b ≡ there x
  there_kept None h p e = e ∙ sym (ap there p)
  there_kept (Some j) h p e =
      let low : j < length (common s) = h in
      e ∙ sym (ap there (p ∙ nth_at j s.common s.table.now (omega (arith, entries_length s.common s.table.now))))

  -- Among the first ones, and where there is none, among the others.

  pub there_front : (w : List ℕ) (b : Bool) → b ≡ there (partner (texts s) w (common s)) → b ≡ true → b ≡ there (partner (texts s) w (entries s))
  there_front w b e t =
      t ∙ sym (ap there (partner_split w) ∙ there_or (partner (texts s) w (common s)) (partner (texts s) w (drop s.common (entries s)))
      ∙ ap (λ (x : Bool). x || there (partner (texts s) w (drop s.common (entries s)))) (sym e ∙ t))

  pub there_rest : (w : List ℕ) (b : Bool) {c : Bool} → b ≡ there (partner (texts s) w (common s)) → b ≡ false →
      c ≡ there (partner (texts s) w (drop s.common (entries s))) → c ≡ there (partner (texts s) w (entries s))
  there_rest w b e f p =
      p ∙ sym (ap there (partner_split w) ∙ there_or (partner (texts s) w (common s)) (partner (texts s) w (drop s.common (entries s)))
      ∙ ap (λ (x : Bool). x || there (partner (texts s) w (drop s.common (entries s)))) (sym e ∙ f))

  module _ (ls : Texts) (e : Entry) where
    abbrev name : List ℕ
    name = name_in ls e

    -- A pair that was kept.
    pub kept_pair : {o : Option ℕ} (p : Pair) → o ≡ Some p.at → MatchedAt ls (texts s) (common s) e o →
        p.other ≡ other_value ls (texts s) e (found (common s) o) → Pairs ls (texts s) e (entries s) (entries s) (Some p)
    kept_pair {o} p is kept differs =
        let m : MatchedAt ls (texts s) (common s) e (Some p.at) = subst (MatchedAt ls (texts s) (common s) e) is kept in
        let k : Pairs ls (texts s) e (common s) (common s) (Some p) = record {
          fits = m.fits;
          is = m.is;
          other = subst (λ (x : Option ℕ). p.other ≡ other_value ls (texts s) e (found (common s) x)) is differs;
        } in
        let few : s.common ≤ s.count = s.few in
        let low : p.at < length (common s) = k.fits in
        let front : p.at < s.common = omega (arith, entries_length s.common s.table.now) in
        let below : p.at < s.count = omega arith in
        let one = nth_at p.at s.common s.table.now front in
        let all = nth_at p.at s.count s.table.now below in
        record {
          fits = omega (arith, entries_length s.count s.table.now);
          is =
              partner_split name ∙ ap (λ (x : lists.Option Entry). or_else x (partner (texts s) name (drop s.common (entries s)))) (k.is ∙ one)
              ∙ sym all;
          other = k.other ∙ ap (other_value ls (texts s) e) (one ∙ sym all);
        }

    -- None was: it is among the others.
    pub rest_pair : {o : Option ℕ} {p : Option Pair} → o ≡ None → MatchedAt ls (texts s) (common s) e o →
        Pairs ls (texts s) e (drop s.common (entries s)) (entries s) p → Pairs ls (texts s) e (entries s) (entries s) p
    rest_pair {o} {p} is kept rest =
        let k : MatchedAt ls (texts s) (common s) e None = subst (MatchedAt ls (texts s) (common s) e) is kept in
        record {
          fits = rest.fits;
          is =
              partner_split name ∙ ap (λ (x : lists.Option Entry). or_else x (partner (texts s) name (drop s.common (entries s)))) k.is
              ∙ rest.is;
          other = rest.other;
        }
