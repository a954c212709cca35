-- As many on either side: where no two on the left say the same and each is paired with one on the right that says what
-- it says, no two on the right say the same either, and each is paired with one on the left. By induction: the first
-- one's partner is taken out.
use mathlib.Core.Path.{◌≡◌, refl, sym, ap, subst, ◌∙◌}
use mathlib.Core.List.{List, [], ◌∷◌}
use mathlib.Core.Logic.{◌⊎◌, inl, inr}
use Prim.Native.Nat.{ℕ, suc}
use native.Mathlib.Omega.{arith}
use lib.ListN.{length}
use Rattle.grammar.specs.Bounds.{Every}
use Rattle.meets.specs.Members.{Some}
use Rattle.meets.proofs.Deciding.{every_map, some_every}

module _ {A : Type 0} where
  -- ys is ws with y put in somewhere.
  abbrev Put : A → List A → List A → Type 0
  Put y ws [] = ⊥
  Put y ws (z ∷ zs) = ((z ≡ y) × (zs ≡ ws)) ⊎ ((vs : List A) × (ws ≡ z ∷ vs) × Put y vs zs)

  -- One of which something holds, taken out.
  record Taken (P : A → Type 0) (ys : List A) : Type 0 where
    one : A
    holds : P one
    others : List A
    put : Put one others ys

  take_out : (P : A → Type 0) (ys : List A) → Some P ys → Taken P ys
  take_out P [] s = absurd s
  take_out P (z ∷ zs) (inl p) = record { one = z; holds = p; others = zs; put = inl (refl, refl) }
  take_out P (z ∷ zs) (inr r) =
      let t = take_out P zs r in
      record { one = t.one; holds = t.holds; others = z ∷ t.others; put = inr (t.others, refl, t.put) }

  put_length : (y : A) (ws ys : List A) → Put y ws ys → length ys ≡ suc (length ws)
  put_length y ws [] p = absurd p
  put_length y ws (z ∷ zs) (inl e) = ap suc (ap length e.1)
  put_length y ws (z ∷ zs) (inr (vs, e, p)) = ap suc (put_length y vs zs p ∙ sym (ap length e))

  put_every : (Q : A → Type 0) (y : A) (ws ys : List A) → Put y ws ys → Q y → Every Q ws → Every Q ys
  put_every Q y ws [] p q h = tt
  put_every Q y ws (z ∷ zs) (inl e) q h = (subst Q (sym e.0) q, subst (Every Q) (sym e.1) h)
  put_every Q y ws (z ∷ zs) (inr (vs, e, p)) q h =
      let g = subst (Every Q) e h in
      (g.0, put_every Q y vs zs p q g.1)

  -- One that is not the one taken out is left.
  put_some : (Q : A → Type 0) (y : A) (ws ys : List A) → Put y ws ys → (Q y → ⊥) → Some Q ys → Some Q ws
  put_some Q y ws [] p n s = absurd s
  put_some Q y ws (z ∷ zs) (inl e) n (inl q) = absurd (n (subst Q e.0 q))
  put_some Q y ws (z ∷ zs) (inl e) n (inr r) = subst (Some Q) e.1 r
  put_some Q y ws (z ∷ zs) (inr (vs, e, p)) n (inl q) = subst (Some Q) (sym e) (inl q)
  put_some Q y ws (z ∷ zs) (inr (vs, e, p)) n (inr r) = subst (Some Q) (sym e) (inr (put_some Q y vs zs p n r))

-- Things that say something, by what they say.

abbrev pub Apart : {D C : Type 0} → (D → C) → C → List D → Type 0
Apart h c ds = Every (λ d. c ≡ h d → ⊥) ds

abbrev pub AllApart : {D C : Type 0} → (D → C) → List D → Type 0
AllApart h [] = Unit {0}
AllApart h (d ∷ ds) = Apart h (h d) ds × AllApart h ds

module _ {A B C : Type 0} (f : A → C) (g : B → C) where
  put_apart : (y : B) (ws ys : List B) → Put y ws ys → Apart g (g y) ws → AllApart g ws → AllApart g ys
  put_apart y ws [] p a d = tt
  put_apart y ws (z ∷ zs) (inl e) a d = (
    subst (λ c. Apart g c zs) (sym (ap g e.0)) (subst (Apart g (g y)) (sym e.1) a),
    subst (AllApart g) (sym e.1) d,
  )
  put_apart y ws (z ∷ zs) (inr (vs, e, p)) a d =
      let b = subst (Apart g (g y)) e a in
      let k = subst (AllApart g) e d in (
        put_every (λ x. g z ≡ g x → ⊥) y vs zs p (λ q. b.0 (sym q)) k.0,
        put_apart y vs zs p b.1 k.1,
      )

  no_length : (n : ℕ) → 0 ≡ suc n → ⊥
  no_length n e = omega arith

  -- Q pairs only what says the same.
  module _ (Q : A → B → Type 0) (says : (x : A) (y : B) → Q x y → f x ≡ g y) where
    pub counted : (xs : List A) (ys : List B) → AllApart f xs → Every (λ x. Some (Q x) ys) xs → length xs ≡ length ys →
        AllApart g ys × Every (λ y. Some (λ x. Q x y) xs) ys
    counted [] [] d m e = (tt, tt)
    counted [] (y ∷ ys) d m e = absurd (no_length (length ys) e)
    counted (x ∷ xs) ys d m e =
        let t = take_out (Q x) ys m.0 in
        let y = t.one in
        let ws = t.others in
        let rest : Every (λ z. Some (Q z) ws) xs = fewer y ws t.holds t.put xs d.0 m.1 in
        let n : length xs ≡ length ws = omega (arith, put_length y ws ys t.put) in
        let r = counted xs ws d.1 rest n in
        let far : Apart g (g y) ws = others y t.holds ws r.1 in (
          put_apart y ws ys t.put far r.0,
          put_every (λ z. Some (λ w. Q w z) (x ∷ xs)) y ws ys t.put (inl t.holds)
              (every_map (λ z. Some (λ w. Q w z) xs) (λ z. Some (λ w. Q w z) (x ∷ xs)) (λ z h. inr h) ws r.1),
        )
      where
        fewer : (y : B) (ws : List B) → Q x y → Put y ws ys → (zs : List A) → Apart f (f x) zs →
            Every (λ z. Some (Q z) ys) zs → Every (λ z. Some (Q z) ws) zs
        fewer y ws h p [] a k = tt
        fewer y ws h p (z ∷ zs) a k = (
          put_some (Q z) y ws ys p (λ q. a.0 (says x y h ∙ sym (says z y q))) k.0,
          fewer y ws h p zs a.1 k.1,
        )

        -- What says what x says is no partner of another.
        others : (y : B) → Q x y → (ws : List B) → Every (λ w. Some (λ z. Q z w) xs) ws → Apart g (g y) ws
        others y h [] k = tt
        others y h (w ∷ ws) k = (
          (λ q. some_every (λ z. Q z w) (λ z. f x ≡ f z → ⊥) (λ z p n. n (says x y h ∙ q ∙ sym (says z w p))) xs k.0
              d.0),
          others y h ws k.1,
        )
