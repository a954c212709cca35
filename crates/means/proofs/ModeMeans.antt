-- The mode that is handed out is that of the algorithm that the recipient's `alg` names, and of every one it names.
use mathlib.Core.Path.{◌≡◌, refl, sym}
use mathlib.Core.Logic.{inl, inr}
use mathlib.Core.List.{List, [], ◌∷◌, ◌++◌}
use Prim.Native.Nat.{ℕ}
use lib.ListN.{length}
use Rattle.prelude.specs.Ascii.{ascii}
use Rattle.grammar.specs.Strings.{HasOctets}
use Rattle.rows.specs.Rows.{Entry, Texts}
use Rattle.algorithms.specs.Algorithms.{mode, alg_names}
use Rattle.algorithms.specs.declared.Alg.{Alg}
use Rattle.jose.specs.Registered.{registered}
use Rattle.jose.specs.HeaderRules.{mode_in}
use Rattle.meets.specs.Members.{Member, Some}
use Rattle.meets.specs.Rules.{Headers, parameters, EveryNamed, Present, ValueAmong, Rules}
use Rattle.meets.proofs.OneForOne.{OneForOne, zip_length}
use Rattle.meets.proofs.Deciding.{some_every}
use Rattle.meets.proofs.Entries.{EntryStands, Seen}
use Rattle.meets.proofs.RulesDecided.{NamesOnce, parameters_distinct}
use Rattle.meets.proofs.RulesDecided as rules
use Rattle.meets.proofs.KeyFits.{Names, listed_names, mode_where}
use Rattle.means.specs.Means.{HasAlg}

-- What a mode means for parameters.
pub record ModeMeans (ps : List Member) (m : ℕ) : Type 0 where
  pub alg : Alg
  pub named : Some (HasAlg alg) ps
  pub is : m ≡ mode alg
  pub no_other : (a : Alg) → Some (HasAlg a) ps → m ≡ mode a

-- An `alg` that is listed names an algorithm.
some_alg : (ps : List Member) → Present (ascii "alg") ps → EveryNamed (ascii "alg") (ValueAmong alg_names) ps →
    (a : Alg) × Some (HasAlg a) ps
some_alg [] i l = absurd i
some_alg (p ∷ ps) (inl n) l = let (a, w) = listed_names p.value (l.0 n) in (a, inl (n, w))
some_alg (p ∷ ps) (inr i) l = let (a, s) = some_alg ps i l.1 in (a, inr s)

module _ (ts : Texts) (h : Headers) (ps ss os : List Entry)
    (zp : OneForOne (EntryStands registered ts 0) h.protected ps)
    (zs : OneForOne (EntryStands registered ts 1) h.shared ss)
    (zo : OneForOne (EntryStands registered ts 2) h.own os) where
  all_seen : OneForOne (Seen registered ts) (parameters h) (ps ++ (ss ++ os))
  all_seen = rules.all_seen ts h ps ss os zp zs zo

  -- As many as the parameters.
  pub entries_many : length (ps ++ (ss ++ os)) ≡ length (parameters h)
  entries_many = sym (zip_length (Seen registered ts) (parameters h) (ps ++ (ss ++ os)) all_seen)

  pub mode_means : (known : List (List ℕ)) (key : List ℕ) → NamesOnce h → Rules known h key →
      ModeMeans (parameters h) (mode_in ts (ps ++ (ss ++ os)))
  mode_means known key once rules =
      let es = ps ++ (ss ++ os) in
      let m = mode_in ts es in
      let all = (mode_where ts (λ k. m ≡ k) (parameters h) es all_seen
      (parameters_distinct h once rules.apart) rules.alg rules.alg_listed).0 refl in
      let other : (a : Alg) → Some (HasAlg a) (parameters h) → m ≡ mode a =
      λ a s.
      some_every (HasAlg a) (λ p. HasOctets p.name (ascii "alg") → Names a p.value → m ≡ mode a)
      (λ p t f. f t.0 t.1) (parameters h) s (all a) in
      let (a, s) = some_alg (parameters h) rules.alg rules.alg_listed in
      record { alg = a; named = s; is = other a s; no_other = other }
