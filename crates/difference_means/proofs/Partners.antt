-- Entries that stand for parameters: the partner that is found by a name's spelling stands for the one parameter that
-- has the name.
use mathlib.Core.Path.{◌≡◌, refl, sym, ap, subst, ◌∙◌}
use mathlib.Core.Bool.{Bool, true, false, cond, false≢true}
use mathlib.Core.Logic.{◌↔◌, inl, inr}
use mathlib.Core.List.{List, [], ◌∷◌, map}
use mathlib.Core.Option.{none, some}
use Prim.Native.Nat.{ℕ, ◌≤◌}
use native.Mathlib.Omega.{arith}
use Rattle.grammar.specs.Grammar.{Str}
use Rattle.grammar.specs.Places.{levels}
use Rattle.grammar.specs.Strings.{SayAlike}
use Rattle.grammar.specs.Bounds.{Every}
use Rattle.rows.specs.Rows.{Entry, Texts, text_of, name_in, name_says}
use Rattle.meets.specs.Members.{Some, Distinct, OneForOne}
use Rattle.meets.proofs.Standing.{ElementStands}
use Rattle.meets.proofs.Saying.{Spells, alike_spells}
use Rattle.meets.proofs.Deciding.{TrueWhere}
use Rattle.same.specs.Same.{depth}
use Rattle.matching.specs.Matching.{partner}
use Rattle.parameters.specs.Lines.{Side}
use Rattle.parameters.specs.Parameters.{value_of, side_of}
use Rattle.difference_means.specs.Meaning.{Parameter, Among}

-- An entry stands for a parameter: it is of its origin, spells its name, and its value stands there.
pub record StandsFor (ts : Texts) (p : Parameter) (e : Entry) : Type 0 where
  pub origin : e.origin ≡ p.origin
  pub spells : Spells (name_in ts e) p.name
  pub stands : ElementStands (text_of ts e.origin) p.value (value_of e)
  pub shallow : levels p.value ≤ depth

-- The names of parameters.
abbrev pub names_in : List Parameter → List Str
names_in ps = map (λ (p : Parameter). p.name) ps

module _ (ts : Texts) where
  abbrev pub Stand : List Parameter → List Entry → Type 0
  Stand ps es = OneForOne (StandsFor ts) ps es

  -- An entry of which something holds, and its parameter.
  pub record Found (ps : List Parameter) (es : List Entry) (Q : Entry → Type 0) : Type 0 where
    pub parameter : Parameter
    pub entry : Entry
    pub stands : StandsFor ts parameter entry
    pub there : Among ps (map side_of es) parameter (side_of entry)
    pub holds : Q entry

  pub found : (Q : Entry → Type 0) (ps : List Parameter) (es : List Entry) → Stand ps es → Some Q es → Found ps es Q
  found Q [] [] z s = absurd s
  found Q [] (e ∷ es) z s = absurd z
  found Q (p ∷ ps) [] z s = absurd z
  found Q (p ∷ ps) (e ∷ es) z (inl h) =
      record { parameter = p; entry = e; stands = z.0; there = inl (refl, refl); holds = h }
  found Q (p ∷ ps) (e ∷ es) z (inr s) =
      let r = found Q ps es z.1 s in
      record {
        parameter = r.parameter;
        entry = r.entry;
        stands = r.stands;
        there = inr r.there;
        holds = r.holds;
      }

  -- A parameter that is there, and its entry.
  pub record Met (es : List Entry) (p : Parameter) (a : Side) : Type 0 where
    pub entry : Entry
    pub stands : StandsFor ts p entry
    pub side : side_of entry ≡ a
    pub there : Some (λ e. entry ≡ e) es

  pub met : (ps : List Parameter) (es : List Entry) → Stand ps es → (p : Parameter) (a : Side) →
      Among ps (map side_of es) p a → Met es p a
  met [] [] z p a m = absurd m
  met [] (e ∷ es) z p a m = absurd m
  met (q ∷ ps) [] z p a m = absurd z
  met (q ∷ ps) (e ∷ es) z p a (inl h) = record {
    entry = e;
    stands = subst (λ (r : Parameter). StandsFor ts r e) h.0 z.0;
    side = h.1;
    there = inl refl;
  }
  met (q ∷ ps) (e ∷ es) z p a (inr m) =
      let r = met ps es z.1 p a m in
      record { entry = r.entry; stands = r.stands; side = r.side; there = inr r.there }

-- What holds of all names holds of all that have them, and of one that is there.

pub every_named : (P : Str → Type 0) (ps : List Parameter) → Every P (names_in ps) → Every (λ p. P p.name) ps
every_named P [] h = tt
every_named P (p ∷ ps) h = (h.0, every_named P ps h.1)

pub among_every : (P : Str → Type 0) (ps : List Parameter) (bs : List Side) (p : Parameter) (a : Side) →
    Every P (names_in ps) →
    Among ps bs p a → P p.name
among_every P [] bs p a h m = absurd m
among_every P (q ∷ ps) [] p a h m = absurd m
among_every P (q ∷ ps) (b ∷ bs) p a h (inl e) = subst (λ (r : Parameter). P r.name) e.0 h.0
among_every P (q ∷ ps) (b ∷ bs) p a h (inr m) = among_every P ps bs p a h.1 m

-- The partner of a spelling.
module _ (ts : Texts) (w : List ℕ) (x : Str) (spells : Spells w x) where
  pub says_where : (q : Parameter) (f : Entry) → StandsFor ts q f → TrueWhere (name_says ts w f) (SayAlike x q.name)
  says_where q f h =
      let t = alike_spells (name_in ts f) q.name h.spells w x spells in
      ((λ e. sym (t.0 e)), (λ e. t.1 (sym e)))

  -- None where no parameter has the name ..
  pub partner_none : (qs : List Parameter) (fs : List Entry) → Stand ts qs fs →
      (partner ts w fs ≡ none) ↔ Every (λ q. SayAlike x q.name → ⊥) qs
  unfolding partner
  partner_none [] [] z = ((λ e. tt), (λ h. refl))
  partner_none [] (f ∷ fs) z = absurd z
  partner_none (q ∷ qs) [] z = absurd z
  partner_none (q ∷ qs) (f ∷ fs) z = cases (name_says ts w f) (says_where q f z.0) (partner_none qs fs z.1)
    where
      cases : (b : Bool) → TrueWhere b (SayAlike x q.name) →
          (partner ts w fs ≡ none) ↔ Every (λ r. SayAlike x r.name → ⊥) qs →
          (cond b (some f) (partner ts w fs) ≡ none)
          ↔ ((SayAlike x q.name → ⊥) × Every (λ r. SayAlike x r.name → ⊥) qs)
      cases true d r = ((λ e. absurd (let k : ◌≡◌ {A = ℕ} 0 1 = cc in omega arith)), (λ h. absurd (h.0 (d.0 refl))))
      cases false d r = ((λ e. ((λ s. false≢true (d.1 s)), r.0 e)), (λ h. r.1 h.1))

  -- .. and where one has it, its entry.
  abbrev Partnered : List Parameter → List Entry → Entry → Type 0
  Partnered qs fs f = (q : Parameter) × StandsFor ts q f × SayAlike x q.name × Among qs (map side_of fs) q (side_of f)

  pub partner_some : (qs : List Parameter) (fs : List Entry) → Stand ts qs fs → (f : Entry) → partner ts w fs ≡ some f →
      Partnered qs fs f
  unfolding partner
  partner_some [] [] z f e = absurd (let k : ◌≡◌ {A = ℕ} 0 1 = cc in omega arith)
  partner_some [] (g ∷ fs) z f e = absurd z
  partner_some (q ∷ qs) [] z f e = absurd z
  partner_some (q ∷ qs) (g ∷ fs) z f e = cases (name_says ts w g) (says_where q g z.0) (partner_some qs fs z.1 f) e
    where
      cases : (b : Bool) → TrueWhere b (SayAlike x q.name) → (partner ts w fs ≡ some f → Partnered qs fs f) →
          cond b (some g) (partner ts w fs) ≡ some f → Partnered (q ∷ qs) (g ∷ fs) f
      cases true d r e =
          let same : g ≡ f = cc in (
            q,
            subst (StandsFor ts q) same z.0,
            d.0 refl,
            inl (refl, ap side_of same),
          )
      cases false d r e = let h = r e in (h.0, h.1, h.2, inr h.3)

  -- It is the only one, names being distinct.
  pub partner_only : (qs : List Parameter) (fs : List Entry) → Stand ts qs fs → Distinct (names_in qs) → (q : Parameter)
      (b : Side) → Among qs (map side_of fs) q b → SayAlike x q.name →
      (f : Entry) × (partner ts w fs ≡ some f) × StandsFor ts q f × (side_of f ≡ b)
  unfolding partner
  partner_only [] [] z d q b m s = absurd m
  partner_only [] (g ∷ fs) z d q b m s = absurd z
  partner_only (r ∷ qs) [] z d q b m s = absurd z
  partner_only (r ∷ qs) (g ∷ fs) z d q b m s =
      cases (name_says ts w g) (says_where r g z.0) m (λ n. partner_only qs fs z.1 d.1 q b n s)
    where
      cases : (c : Bool) → TrueWhere c (SayAlike x r.name) → Among (r ∷ qs) (map side_of (g ∷ fs)) q b →
          (Among qs (map side_of fs) q b →
          (f : Entry) × (partner ts w fs ≡ some f) × StandsFor ts q f × (side_of f ≡ b)) →
          (f : Entry) × (cond c (some g) (partner ts w fs) ≡ some f) × StandsFor ts q f × (side_of f ≡ b)
      cases true t (inl h) k = (g, refl, subst (λ (p : Parameter). StandsFor ts p g) h.0 z.0, h.1)
      cases true t (inr n) k =
          absurd (among_every (λ y. SayAlike r.name y → ⊥) qs (map side_of fs) q b d.0 n (sym (t.0 refl) ∙ s))
      cases false t (inl h) k =
          absurd (false≢true (t.1 (subst (λ (p : Parameter). SayAlike x p.name) (sym h.0) s)))
      cases false t (inr n) k = k n
