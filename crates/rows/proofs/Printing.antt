-- Tables whose entries have the fingerprints of what their names say: what was laid flat has them, and whatever is
-- written behind entries that have them leaves them there.
use mathlib.Core.Path.{◌≡◌, refl, ap, sym, subst, ◌∙◌}
use mathlib.Core.List.{List, [], ◌∷◌, ◌++◌}
use Prim.Native.Nat.{ℕ, zero, suc, ◌+◌, ◌*◌, ◌≤◌, ◌<◌}
use native.Mathlib.Omega.{arith}
use lib.ListN.{length, take, drop, length-drop}
use lib.Seq.{drop-drop}
use Rattle.prelude.specs.Buffer.{written}
use Rattle.grammar.specs.Spellings.{undo}
use Rattle.spelling.specs.Inner.Fingerprints.{fingerprint}
use Rattle.grammar.specs.Places.{Member}
use Rattle.grammar.specs.Bounds.{Every}
use Rattle.rows.specs.Rows.{Entry, Texts, text_of, one_text, spelled_name, entries_in}
use Rattle.rows.specs.Tables.{width}
use Rattle.rows.specs.Inner.Prints.{flat, HasPrint, Printed}
use Rattle.rows.proofs.Entries.{front_next, drop_written}

-- Entries that stand in a text: it is the one that their origins say.
abbrev pub StandIn : Texts → List ℕ → List Entry → Type 0
StandIn ts s es = Every (λ e. text_of ts e.origin ≡ s) es

pub entries_stand : (names : List (List ℕ)) (ts : Texts) (s : List ℕ) (o : ℕ) (ms : List Member) → text_of ts o ≡ s →
    StandIn ts s (entries_in names s o ms)
unfolding entries_in
entries_stand names ts s o [] e = tt
entries_stand names ts s o (m ∷ ms) e = (e, entries_stand names ts s o ms e)

-- One text is the text of every origin.
one_text_lem : (s : List ℕ) (o : ℕ) → text_of (one_text s) o ≡ s
one_text_lem s zero = refl
one_text_lem s (suc zero) = refl
one_text_lem s (suc (suc o)) = refl

pub stand_in_one : (s : List ℕ) (es : List Entry) → StandIn (one_text s) s es
stand_in_one s [] = tt
stand_in_one s (e ∷ es) = (one_text_lem s e.origin, stand_in_one s es)

module _ (ts : Texts) where
  -- An entry's, out of those of all.
  pub printed_at : (i count : ℕ) (t : List ℕ) → i < count → Printed ts count t → HasPrint ts (drop (i * width) t)
  unfolding Printed
  printed_at i zero t h p = absurd (omega arith)
  printed_at zero (suc n) t h p = p.0
  printed_at (suc i) (suc n) t h p =
      let at : width + i * width ≡ suc i * width = omega arith in
      subst (HasPrint ts) (drop-drop (i * width) width t ∙ ap (λ (k : ℕ). drop k t) at)
      (printed_at i n (drop width t) (omega arith) p.1)

  -- Those of the first entries, and of those behind them.
  printed_split : (m n : ℕ) (t : List ℕ) → Printed ts m t → Printed ts n (drop (m * width) t) → Printed ts (m + n) t
  unfolding Printed
  printed_split zero n t p q = let e : n ≡ 0 + n = omega arith in subst (λ (k : ℕ). Printed ts k t) e q
  printed_split (suc m) n t p q =
      let e : suc (m + n) ≡ suc m + n = omega arith in
      let at : width + m * width ≡ suc m * width = omega arith in
      let behind = subst (Printed ts n) (sym (drop-drop (m * width) width t ∙ ap (λ (k : ℕ). drop k t) at)) q in
      subst (λ (k : ℕ). Printed ts k t) e (p.0, printed_split m n (drop width t) p.1 behind)

  printed_front : (count : ℕ) (t rest : List ℕ) → count * width ≤ length t → Printed ts count t →
      Printed ts count (take (count * width) t ++ rest)
  unfolding Printed
  printed_front zero t rest h p = tt
  printed_front (suc n) t rest h p =
      subst (Printed ts (suc n)) (sym (front_next n t rest h))
      (p.0, printed_front n (drop width t) rest (omega (arith, length-drop width t)) p.1)

  -- Whatever is written behind them.
  pub printed_kept : (count : ℕ) (xs t : List ℕ) → count * width ≤ length t → Printed ts count t →
      Printed ts count (written (count * width) xs t)
  unfolding written
  printed_kept count xs t h p = printed_front count t _ h p

  -- Entries that were written

  printed_flat : (s : List ℕ) (es : List Entry) (rest : List ℕ) → StandIn ts s es →
      Printed ts (length es) (flat s es ++ rest)
  unfolding Printed flat
  printed_flat s [] rest h = tt
  printed_flat s (e ∷ es) rest h =
      (ap (λ (x : List ℕ). fingerprint (undo (spelled_name x e.member))) (sym h.0), printed_flat s es rest h.1)

  pub printed_written : (s : List ℕ) (es : List Entry) (table : List ℕ) → StandIn ts s es →
      Printed ts (length es) (written 0 (flat s es) table)
  unfolding written
  printed_written s es table h = printed_flat s es _ h

  -- From the entry `from` on.
  module _ (from : ℕ) (s : List ℕ) (es : List Entry) (table : List ℕ) (room : from * width ≤ length table)
      (h : StandIn ts s es) where
    pub printed_written_from :
        Printed ts (length es) (drop (from * width) (written (from * width) (flat s es) table))
    printed_written_from =
        subst (Printed ts (length es)) (sym (drop_written from s es table room)) (printed_flat s es _ h)

    -- Those before it, and these.
    pub printed_more : Printed ts from table →
        Printed ts (from + length es) (written (from * width) (flat s es) table)
    printed_more p =
        printed_split from (length es) (written (from * width) (flat s es) table)
        (printed_kept from (flat s es) table room p) printed_written_from
