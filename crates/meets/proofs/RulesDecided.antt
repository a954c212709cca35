-- The tests on a recipient's parameters decide the rules: none refuses exactly where the rules are met. Each test
-- decides its own sentence, 15, 17 and 18 where those that they rest on do not refuse.
use mathlib.Core.Path.{◌≡◌, refl}
use mathlib.Core.Bool.{true}
use mathlib.Core.Logic.{◌↔◌}
use mathlib.Core.List.{List, [], ◌∷◌, ◌++◌}
use Prim.Native.Nat.{ℕ}
use lib.Dec.{eqb}
use Rattle.grammar.specs.Grammar.{Str}
use Rattle.grammar.specs.Strings.{SayAlike}
use Rattle.grammar.specs.Bounds.{Every}
use Rattle.prelude.specs.Any.{any}
use Rattle.rows.specs.Rows.{Entry, Texts}
use Rattle.jose.specs.Registered.{registered}
use Rattle.prelude.specs.Refusals.{first}
use Rattle.jose.specs.declared.Sizes.{Sizes}
use Rattle.jose.specs.HeaderRules.{recipient_order}
use Rattle.meets.specs.Members.{Member, names_of, Distinct, Apart}
use Rattle.meets.specs.Rules.{Headers, parameters, NamesApart, Rules}
use Rattle.meets.proofs.OneForOne.{OneForOne, zip_into, zip_append}
use Rattle.meets.proofs.Deciding.{first_none}
use Rattle.meets.proofs.Entries.{EntryStands, Seen, entry_seen}
use Rattle.meets.proofs.NamesApart.{names_apart_decided}
use Rattle.meets.proofs.Parameters.{required_decided, kinds_decided, listed_decided, protected_decided}
use Rattle.meets.proofs.CriticalNames.{critical_decided}
use Rattle.meets.proofs.KeyFits.{key_decided}

-- Names of which none stands twice, nor in two headers, are distinct altogether

-- Members that have no such name.
abbrev Without : Str → List Member → Type 0
Without x ms = Every (λ y. SayAlike x y → ⊥) (names_of ms)

without_append : (x : Str) (ms ns : List Member) → Without x ms → Without x ns → Without x (ms ++ ns)
without_append x [] ns h i = i
without_append x (m ∷ ms) ns h i = (h.0, without_append x ms ns h.1 i)

apart_append : (xs : List Str) (ms ns : List Member) → Apart xs (names_of ms) → Apart xs (names_of ns) →
    Apart xs (names_of (ms ++ ns))
apart_append [] ms ns h i = tt
apart_append (x ∷ xs) ms ns h i = (without_append x ms ns h.0 i.0, apart_append xs ms ns h.1 i.1)

distinct_append : (ms ns : List Member) → Distinct (names_of ms) → Distinct (names_of ns) →
    Apart (names_of ms) (names_of ns) → Distinct (names_of (ms ++ ns))
distinct_append [] ns h i a = i
distinct_append (m ∷ ms) ns h i a =
    (without_append m.name ms ns h.0 a.0, distinct_append ms ns h.1 i a.1)

-- No name stands twice in a header: what refusal 9 leaves.
pub record NamesOnce (h : Headers) : Type 0 where
  pub protected : Distinct (names_of h.protected)
  pub shared : Distinct (names_of h.shared)
  pub own : Distinct (names_of h.own)

pub parameters_distinct : (h : Headers) → NamesOnce h → NamesApart h → Distinct (names_of (parameters h))
parameters_distinct h o a =
    distinct_append h.protected (h.shared ++ h.own) o.protected
    (distinct_append h.shared h.own o.shared o.own a.2)
    (apart_append (names_of h.protected) h.shared h.own a.0 a.1)

-- Entries that stand for three headers are seen to stand for all their parameters.
module _ (ts : Texts) (h : Headers) (ps ss os : List Entry)
    (zp : OneForOne (EntryStands registered ts 0) h.protected ps)
    (zs : OneForOne (EntryStands registered ts 1) h.shared ss)
    (zo : OneForOne (EntryStands registered ts 2) h.own os) where
  one_seen : (o : ℕ) (ms : List Member) (es : List Entry) → OneForOne (EntryStands registered ts o) ms es →
      OneForOne (Seen registered ts) ms es
  one_seen o ms es z =
      zip_into (EntryStands registered ts o) (Seen registered ts)
      (entry_seen registered ts o) ms es z

  pub all_seen : OneForOne (Seen registered ts) (parameters h) (ps ++ (ss ++ os))
  all_seen =
      zip_append (Seen registered ts) h.protected ps (h.shared ++ h.own) (ss ++ os)
      (one_seen 0 h.protected ps zp)
      (zip_append (Seen registered ts) h.shared ss h.own os (one_seen 1 h.shared ss zs)
      (one_seen 2 h.own os zo))

module _ (known : List (List ℕ)) (ts : Texts) (h : Headers) (ps ss os : List Entry) (key : List ℕ)
    (sizes : Sizes) (zp : OneForOne (EntryStands registered ts 0) h.protected ps)
    (zs : OneForOne (EntryStands registered ts 1) h.shared ss)
    (zo : OneForOne (EntryStands registered ts 2) h.own os) (once : NamesOnce h)
    (keyed : (eqb sizes.key 0 ≡ true) ↔ (key ≡ [])) where
  seen : OneForOne (Seen registered ts) (parameters h) (ps ++ (ss ++ os))
  seen = all_seen ts h ps ss os zp zs zo

  pub rules_decided : (first (recipient_order known ts (ps ++ (ss ++ os)) sizes) ≡ 0) ↔ Rules known h key
  unfolding recipient_order any
  rules_decided =
      let ms = parameters h in
      let es = ps ++ (ss ++ os) in
      let tests = first_none (recipient_order known ts es sizes) refl in
      let names = names_apart_decided registered ts h ps ss os zp zs zo in
      let required = required_decided ts ms es seen in
      let kinds = kinds_decided ts ms es seen in
      let listed = listed_decided ts ms es seen in
      let protected = protected_decided ts h ps ss os zp zs zo in
      let critical = critical_decided known ts ms es seen in
      let fits = key_decided ts ms es key sizes seen in (
        (λ e.
            let t = tests.0 e in
            let apart = names.0 t.0 in
            let there = required.0 t.1.0 in
            let kind = kinds.0 t.1.1.0 in
            let values = (listed kind.0).0 t.1.1.1.0 in
            let inside = protected.0 t.1.1.1.1.0 in
            record {
              apart = apart;
              alg = there.0;
              enc = there.1;
              strings = kind.0;
              objects = kind.1;
              arrays = kind.2;
              alg_listed = values.0;
              enc_listed = values.1;
              zip_listed = values.2;
              zip_protected = inside.0;
              crit_protected = inside.1;
              critical = (critical kind.2).0 t.1.1.1.1.1.0;
              key_fits =
                  (fits (parameters_distinct h once apart) there.0 values.0 keyed).0 t.1.1.1.1.1.1.0;
            }),
        (λ r.
            let named = names.1 r.apart in
            let there = required.1 (r.alg, r.enc) in
            let kind = kinds.1 (r.strings, r.objects, r.arrays) in
            let values = (listed r.strings).1 (r.alg_listed, r.enc_listed, r.zip_listed) in
            let inside = protected.1 (r.zip_protected, r.crit_protected) in
            let crit = (critical r.arrays).1 r.critical in
            let fit = (fits (parameters_distinct h once r.apart) r.alg r.alg_listed keyed).1 r.key_fits in
            tests.1 (named, (there, (kind, (values, (inside, (crit, (fit, tt)))))))),
      )
