-- Refusal 18: the mode that the test finds is that of the one `alg`, so the key fits it exactly where the rule asks.
use mathlib.Core.Path.{◌≡◌, refl, ap, sym, subst, ◌∙◌}
use mathlib.Core.Bool.{Bool, true, false, xor, cond, true≢false, false≢true}
use mathlib.Core.Logic.Iff
use mathlib.Core.Logic.{◌↔◌, inl, inr}
use mathlib.Core.List.{List, [], ◌∷◌, map}
use Prim.Native.Nat.{ℕ}
use lib.Dec.{T, eqb}
use Rattle.prelude.specs.Ascii.{ascii}
use Rattle.grammar.specs.Grammar.{Str, Value}
use Rattle.grammar.specs.Strings.{says, SayAlike, HasOctets}
use Rattle.grammar.specs.Spellings.{adds, next, undo_from, undo, equal, has, sayable}
use Rattle.grammar.specs.Utf8.{points}
use Rattle.grammar.specs.Bounds.{Every}
use Rattle.grammar.proofs.Theorems.{says_octets}
use Rattle.names.specs.Names.{number_in}
use Rattle.names.proofs.Laws.{number_alike}
use Rattle.rows.specs.Rows.{Entry, Texts, value_in, numbered}
use Rattle.algorithms.specs.declared.Alg.{Alg}
use Rattle.algorithms.specs.declared.Alg.TheVariants.{Rsa15, RsaOaep, RsaOaep256, A128Kw, A192Kw, A256Kw}
use Rattle.algorithms.specs.declared.Alg.TheVariants.{A128GcmKw, A192GcmKw, A256GcmKw, Pbes2A128Kw}
use Rattle.algorithms.specs.declared.Alg.TheVariants.{Pbes2A192Kw, Pbes2A256Kw, EcdhEs, EcdhEsA128Kw}
use Rattle.algorithms.specs.declared.Alg.TheVariants.{EcdhEsA192Kw, EcdhEsA256Kw, Dir}
use Rattle.algorithms.specs.Algorithms.{algs, alg_name, mode, alg_names, nth, mode_of}
use Rattle.jose.specs.declared.Sizes.{Sizes}
use Rattle.jose.specs.Registered.{registered, alg}
use Rattle.jose.specs.HeaderRules.{mode_in, keyless, wrong_key}
use Rattle.meets.specs.Members.{Member, names_of, Some, Among, Distinct, Absent}
use Rattle.meets.specs.Rules.{EveryNamed, Present, ValueAmong, KeyFits}
use Rattle.meets.proofs.OneForOne.{OneForOne}
use Rattle.meets.proofs.Standing.{is_string}
use Rattle.meets.proofs.Saying.{refuted}
use Rattle.meets.proofs.Deciding.{TrueWhere, FalseWhere, either, eqb_where, every_map}
use Rattle.meets.proofs.Numbering.{octets_undone}
use Rattle.meets.proofs.Entries.{Seen, numbered_where, value_spells}
use Rattle.meets.proofs.Parameters.{alg_number}

-- A mode and a key

xor_where : {P Q : Type 0} (a b : Bool) → TrueWhere a P → TrueWhere b Q → FalseWhere (xor a b) (P ↔ Q)
unfolding xor
xor_where true true w v = ((λ e. ((λ p. v.0 refl), (λ q. w.0 refl))), (λ r. refl))
xor_where true false w v = ((λ e. absurd (true≢false e)), (λ r. absurd (false≢true (v.1 (r.0 (w.0 refl))))))
xor_where false true w v = ((λ e. absurd (true≢false e)), (λ r. absurd (false≢true (w.1 (r.1 (v.0 refl))))))
xor_where false false w v = (
  (λ e. ((λ p. absurd (false≢true (w.1 p))), (λ q. absurd (false≢true (v.1 q))))),
  (λ r. refl),
)

key_where : (m : ℕ) (key : List ℕ) (z : Sizes) → (eqb z.key 0 ≡ true) ↔ (key ≡ []) →
    FalseWhere (wrong_key m z) (KeyFits m key)
key_where m key z k = xor_where (keyless m) (eqb z.key 0) (either (eqb m 3) (eqb m 5) (eqb_where m 3) (eqb_where m 5)) k

-- Algorithms

-- An algorithm's name is spelled as its octets, and its number among the names is that of its mode.
alg_mode : (a : Alg) →
    (undo (alg_name a) ≡ alg_name a) × (mode_of (nth algs (number_in alg_names (alg_name a))) ≡ mode a)
unfolding algs alg_name alg_names nth number_in has equal undo undo_from adds next ascii
alg_mode Rsa15 = (refl, refl)
alg_mode RsaOaep = (refl, refl)
alg_mode RsaOaep256 = (refl, refl)
alg_mode A128Kw = (refl, refl)
alg_mode A192Kw = (refl, refl)
alg_mode A256Kw = (refl, refl)
alg_mode A128GcmKw = (refl, refl)
alg_mode A192GcmKw = (refl, refl)
alg_mode A256GcmKw = (refl, refl)
alg_mode Pbes2A128Kw = (refl, refl)
alg_mode Pbes2A192Kw = (refl, refl)
alg_mode Pbes2A256Kw = (refl, refl)
alg_mode EcdhEs = (refl, refl)
alg_mode EcdhEsA128Kw = (refl, refl)
alg_mode EcdhEsA192Kw = (refl, refl)
alg_mode EcdhEsA256Kw = (refl, refl)
alg_mode Dir = (refl, refl)

-- A value that has an algorithm's name.
abbrev pub Names : Alg → Value → Type 0
Names a = ValueAmong (alg_name a ∷ [])

some_of : {A B : Type 0} (f : A → B) (P : B → Type 0) (xs : List A) → Some P (map f xs) → (a : A) × P (f a)
some_of f P [] s = absurd s
some_of f P (x ∷ xs) s = elim s [ inl p ↦ (x, p) | inr r ↦ some_of f P xs r ]

pub listed_names : (v : Value) → ValueAmong alg_names v → (a : Alg) × Names a v
unfolding alg_names
listed_names v h =
    let (x, i, among) = (is_string (Among alg_names) v).0 h in
    let (a, p) = some_of alg_name (HasOctets x) algs among in
    (a, (is_string (Among (alg_name a ∷ [])) v).1 (x, i, inl p))

-- Names

-- Strings that have the same octets say the same.
same_octets : (x y : Str) (w : List ℕ) → T (sayable x) → T (sayable y) → HasOctets x w → HasOctets y w → SayAlike x y
unfolding says
same_octets x y w s t p q = ap points (sym (says_octets x s) ∙ p ∙ sym q ∙ says_octets y t)

module _ (ts : Texts) where
  -- So a name stands once where no name stands twice.
  pub once : (x : Str) (w : List ℕ) → T (sayable x) → HasOctets x w → (ps : List Member) (es : List Entry) →
      OneForOne (Seen registered ts) ps es → Every (λ y. SayAlike x y → ⊥) (names_of ps) → Absent w ps
  once x w s p [] es z h = tt
  once x w s p (m ∷ ms) [] z h = absurd z
  once x w s p (m ∷ ms) (e ∷ es) z h = (
    (λ q. h.0 (same_octets x m.name w s z.0.spells.sayable p q)),
    once x w s p ms es z.1 h.1,
  )

  -- The mode that an entry names.
  abbrev here : Entry → ℕ
  here e = mode_of (nth algs (number_in alg_names (value_in ts e)))

  mode_here : (p : Member) (e : Entry) → Seen registered ts p e → (a : Alg) → Names a p.value →
      here e ≡ mode a
  mode_here p e r a h =
      let (x, i, among) = (is_string (Among (alg_name a ∷ [])) p.value).0 h in
      let t = value_spells registered ts p e r x i in
      let has : HasOctets x (alg_name a) = elim among [ inl q ↦ q | inr n ↦ absurd n ] in
      let u : undo (value_in ts e) ≡ undo (alg_name a) =
      octets_undone (value_in ts e) x t (alg_name a) has ∙ sym (alg_mode a).0 in
      ap (λ (n : ℕ). mode_of (nth algs n)) (number_alike alg_names (value_in ts e) (alg_name a) u)
      ∙ (alg_mode a).1

  -- What is asked of the mode of each algorithm that an `alg` names.
  module _ (Q : ℕ → Type 0) where
    abbrev pub Asked : Alg → Value → Type 0
    Asked a v = Names a v → Q (mode a)

    pub mode_where : (ps : List Member) (es : List Entry) → OneForOne (Seen registered ts) ps es →
        Distinct (names_of ps) → Present (ascii "alg") ps → EveryNamed (ascii "alg") (ValueAmong alg_names) ps →
        Q (mode_in ts es) ↔ ((a : Alg) → EveryNamed (ascii "alg") (Asked a) ps)
    unfolding mode_in
    mode_where [] es z d i l = absurd i
    mode_where (p ∷ ps) [] z d i l = absurd z
    mode_where (p ∷ ps) (e ∷ es) z d i l =
        cases (numbered alg e) refl (λ j. mode_where ps es z.1 d.1 j l.1)
      where
        named : TrueWhere (numbered alg e) (HasOctets p.name (ascii "alg"))
        named = numbered_where registered ts p e z.0 alg (ascii "alg") alg_number

        cases : (b : Bool) → numbered alg e ≡ b →
            (Present (ascii "alg") ps →
            Q (mode_in ts es) ↔ ((a : Alg) → EveryNamed (ascii "alg") (Asked a) ps)) →
            Q (cond b (here e) (mode_in ts es)) ↔ ((a : Alg) → EveryNamed (ascii "alg") (Asked a) (p ∷ ps))
        cases true t later =
            let n = named.0 t in
            let none = once p.name (ascii "alg") z.0.spells.sayable n ps es z.1 d.0 in
            let (a, w) = listed_names p.value (l.0 n) in (
              (λ q b. (
                (λ m v. subst Q (mode_here p e z.0 b v) q),
                every_map (λ m. HasOctets m.name (ascii "alg") → ⊥)
                    (λ m. HasOctets m.name (ascii "alg") → Asked b m.value) (λ m f o. absurd (f o)) ps none,
              )),
              (λ f. subst Q (sym (mode_here p e z.0 a w)) ((f a).0 n w)),
            )
        cases false t later =
            let none = (refuted (numbered alg e) named).0 t in
            let j : Present (ascii "alg") ps = elim i [ inl n ↦ absurd (none n) | inr j ↦ j ] in (
              (λ q a. ((λ n. absurd (none n)), (later j).0 q a)),
              (λ f. (later j).1 (λ a. (f a).1)),
            )

  -- 18, where 13 and 15 do not refuse and no name stands twice
  pub key_decided : (ps : List Member) (es : List Entry) (key : List ℕ) (sizes : Sizes) →
      OneForOne (Seen registered ts) ps es → Distinct (names_of ps) → Present (ascii "alg") ps →
      EveryNamed (ascii "alg") (ValueAmong alg_names) ps → (eqb sizes.key 0 ≡ true) ↔ (key ≡ []) →
      (wrong_key (mode_in ts es) sizes ≡ false)
      ↔ ((a : Alg) →
      EveryNamed (ascii "alg") (λ v. ValueAmong (alg_name a ∷ []) v → KeyFits (mode a) key) ps)
  key_decided ps es key sizes z d i l k =
      Iff.trans (key_where (mode_in ts es) key sizes k) (mode_where (λ m. KeyFits m key) ps es z d i l)
