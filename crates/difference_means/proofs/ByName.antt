-- Two recipients' parameters agree by name exactly if no line can be said of them, names being distinct.
use mathlib.Core.Path.{◌≡◌, refl, sym, subst, ◌∙◌}
use mathlib.Core.Bool.{Bool, true, false, false≢true}
use mathlib.Core.Logic.{inl, inr}
use mathlib.Core.List.{List, [], ◌∷◌, map}
use mathlib.Core.Option.{Option, none, some}
use Prim.Native.Nat.{ℕ}
use Rattle.grammar.specs.Strings.{SayAlike}
use Rattle.grammar.specs.Bounds.{Every}
use Rattle.rows.specs.Rows.{Entry, Texts, name_in}
use Rattle.meets.specs.Members.{Some, Distinct}
use Rattle.meets.proofs.Deciding.{TrueWhere, every_map, some_every}
use Rattle.same_values.specs.Same.{Same}
use Rattle.same_values.proofs.Theorems.{same_itself}
use Rattle.matching.specs.Matching.{partner}
use Rattle.parameters.specs.Lines.{Side, missing, Line, line}
use Rattle.parameters.specs.Parameters.{side_of}
use Rattle.difference_means.specs.Meaning.{Parameter, Alike, Shown, Among, Has, SaysOf, only_left, only_right}
use Rattle.difference_means.specs.Meaning.{moved, others}
use Rattle.difference_means.specs.Meaning.{AgreeByName}
use Rattle.difference_means.proofs.Partners.{StandsFor, names_in, Stand, every_named, among_every, partner_none}
use Rattle.difference_means.proofs.Partners.{partner_some}
use Rattle.difference_means.proofs.ParameterLines.{shown_as, origin_where, value_where}

-- A sentence that a test decides holds if it cannot fail.
pub stable : {P : Type 0} (b : Bool) → TrueWhere b P → ((P → ⊥) → ⊥) → P
stable true w h = w.0 refl
stable false w h = absurd (h (λ p. false≢true (w.1 p)))

-- Parameters that are there

module _ (P : Parameter → Type 0) where
  among_holds : (ps : List Parameter) (bs : List Side) (p : Parameter) (a : Side) → Every P ps → Among ps bs p a → P p
  among_holds [] bs p a h m = absurd m
  among_holds (q ∷ ps) [] p a h m = absurd m
  among_holds (q ∷ ps) (b ∷ bs) p a h (inl e) = subst P e.0 h.0
  among_holds (q ∷ ps) (b ∷ bs) p a h (inr m) = among_holds ps bs p a h.1 m

  among_some : (ps : List Parameter) (bs : List Side) (p : Parameter) (a : Side) → Among ps bs p a → P p → Some P ps
  among_some [] bs p a m h = m
  among_some (q ∷ ps) [] p a m h = absurd m
  among_some (q ∷ ps) (b ∷ bs) p a (inl e) h = inl (subst P (sym e.0) h)
  among_some (q ∷ ps) (b ∷ bs) p a (inr m) h = inr (among_some ps bs p a m h)

  -- What holds of each that has an entry holds of all.
  each_standing : (ts : Texts) (ps : List Parameter) (es : List Entry) → Stand ts ps es →
      ((p : Parameter) (e : Entry) → StandsFor ts p e → Among ps (map side_of es) p (side_of e) → P p) → Every P ps
  each_standing ts [] [] z h = tt
  each_standing ts [] (e ∷ es) z h = absurd z
  each_standing ts (p ∷ ps) [] z h = absurd z
  each_standing ts (p ∷ ps) (e ∷ es) z h =
      (h p e z.0 (inl (refl, refl)), each_standing ts ps es z.1 (λ q f s m. h q f s (inr m)))

-- Parameters whose names say the same, of one origin and with the same value.
abbrev Agreeing : Parameter → Parameter → Type 0
Agreeing p q = Alike p q × (p.origin ≡ q.origin) × Same p.value q.value

-- One that agrees is the one that has the name.
only_alike : (p : Parameter) (qs : List Parameter) (bs : List Side) (q : Parameter) (b : Side) → Distinct (names_in qs) →
    Among qs bs q b → Alike p q → Some (Agreeing p) qs → Agreeing p q
only_alike p [] bs q b d m s c = absurd m
only_alike p (r ∷ qs) [] q b d m s c = absurd m
only_alike p (r ∷ qs) (a ∷ bs) q b d (inl e) s (inl c) = subst (Agreeing p) e.0 c
only_alike p (r ∷ qs) (a ∷ bs) q b d (inl e) s (inr c) =
    absurd (some_every (Agreeing p) (λ t. Alike r t → ⊥)
    (λ t u n. n (subst (λ (o : Parameter). Alike o p) (sym e.0) (sym s) ∙ u.0)) qs c
    (every_named (λ y. SayAlike r.name y → ⊥) qs d.0))
only_alike p (r ∷ qs) (a ∷ bs) q b d (inr m) s (inl c) =
    absurd (among_every (λ y. SayAlike r.name y → ⊥) qs bs q b d.0 m (sym c.0 ∙ s))
only_alike p (r ∷ qs) (a ∷ bs) q b d (inr m) s (inr c) = only_alike p qs bs q b d.1 m s c

-- Where parameters agree, nothing is said.
module _ (s t : Shown) (n : ℕ) (l : Line) (d : Distinct (names_in t.parameters))
    (g : AgreeByName s.parameters t.parameters) where
  agreeing : (p : Parameter) (a : Side) → Has s p a → Some (Agreeing p) t.parameters
  agreeing p a m = among_holds (λ r. Some (Agreeing r) t.parameters) s.parameters s.sides p a g.each m

  agreed : (p q : Parameter) (a b : Side) → Has s p a → Has t q b → Alike p q → Agreeing p q
  agreed p q a b m k i = only_alike p t.parameters t.sides q b d k i (agreeing p a m)

  pub agree_silent : SaysOf s t n l → ⊥
  agree_silent (only_left p a m k e) =
      some_every (Agreeing p) (λ q. Alike p q → ⊥) (λ q u v. v u.0) t.parameters (agreeing p a m) k
  agree_silent (only_right q b m k e) =
      some_every (Alike q) (λ p. Alike q p → ⊥) (λ p u v. v u) s.parameters
      (among_holds (λ r. Some (Alike r) s.parameters) t.parameters t.sides q b g.no_more m) k
  agree_silent (moved p q a b m k i o e) = o (agreed p q a b m k i).1
  agree_silent (others p q a b m k i o e) = o (agreed p q a b m k i).2

-- Where nothing can be said, they agree: a partner is found or not, and its tests decide.
module _ (ls rs : Texts) (n : ℕ) (ps qs : List Parameter) (es fs : List Entry) (zl : Stand ls ps es)
    (zr : Stand rs qs fs) (silent : (l : Line) → SaysOf (shown_as ps es) (shown_as qs fs) n l → ⊥) where
  left_agrees : (p : Parameter) (e : Entry) → StandsFor ls p e → Among ps (map side_of es) p (side_of e) →
      Some (Agreeing p) qs
  left_agrees p e hp m = cases (partner rs (name_in ls e) fs) refl
    where
      cases : (o : Option Entry) → partner rs (name_in ls e) fs ≡ o → Some (Agreeing p) qs
      cases none h =
          absurd (silent (line 8 n (side_of e) missing) (only_left p (side_of e) m
          ((partner_none rs (name_in ls e) p.name hp.spells qs fs zr).0 h) refl))
      cases (some f) h =
          let (q, hq, s, k) = partner_some rs (name_in ls e) p.name hp.spells qs fs zr f h in
          among_some (Agreeing p) qs (map side_of fs) q (side_of f) k (
            s,
            stable _ (origin_where ls rs p q e f hp hq)
                (λ d. silent (line 10 n (side_of e) (side_of f)) (moved p q (side_of e) (side_of f) m k s d refl)),
            stable _ (value_where ls rs p q e f hp hq)
                (λ d. silent (line 11 n (side_of e) (side_of f)) (others p q (side_of e) (side_of f) m k s d refl)),
          )

  right_agrees : (q : Parameter) (f : Entry) → StandsFor rs q f → Among qs (map side_of fs) q (side_of f) →
      Some (Alike q) ps
  right_agrees q f hq m = cases (partner ls (name_in rs f) es) refl
    where
      cases : (o : Option Entry) → partner ls (name_in rs f) es ≡ o → Some (Alike q) ps
      cases none h =
          absurd (silent (line 9 n missing (side_of f)) (only_right q (side_of f) m
          ((partner_none ls (name_in rs f) q.name hq.spells ps es zl).0 h) refl))
      cases (some e) h =
          let (p, hp, s, k) = partner_some ls (name_in rs f) q.name hq.spells ps es zl e h in
          among_some (Alike q) ps (map side_of es) p (side_of e) k s

  pub silent_agree : AgreeByName ps qs
  silent_agree = record {
    each = each_standing (λ p. Some (Agreeing p) qs) ls ps es zl left_agrees;
    no_more = each_standing (λ q. Some (Alike q) ps) rs qs fs zr right_agrees;
  }

-- Parameters agree with themselves.

itself : (R : Parameter → Parameter → Type 0) → ((p : Parameter) → R p p) → (ps : List Parameter) →
    Every (λ p. Some (R p) ps) ps
itself R h [] = tt
itself R h (p ∷ ps) =
    (inl (h p), every_map (λ q. Some (R q) ps) (λ q. Some (R q) (p ∷ ps)) (λ q s. inr s) ps (itself R h ps))

pub agree_themselves : (ps : List Parameter) → AgreeByName ps ps
agree_themselves ps = record {
  each = itself Agreeing (λ p. (refl, refl, same_itself p.value)) ps;
  no_more = itself Alike (λ p. refl) ps;
}
