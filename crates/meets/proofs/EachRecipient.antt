-- Refusals 5, 8, 9 and 12 to 18 on each recipient: they decide that its key is spelled, its own header an object whose
-- names are compared, and the rules kept by its headers and its key. And 21 on all of them, which have then one `enc` each.
use mathlib.Core.Path.{◌≡◌, sym, subst}
use mathlib.Core.Bool.{true, false}
use mathlib.Core.Logic.{◌↔◌}
use mathlib.Core.List.{List, [], ◌∷◌, map}
use Prim.Native.Nat.{ℕ}
use lib.Dec.{eqb}
use Rattle.prelude.specs.Ascii.{ascii}
use Rattle.grammar.specs.Bounds.{Every}
use Rattle.rows.specs.Rows.{Entry, read_texts, present, value_of}
use Rattle.prelude.specs.Refusals.{first}
use Rattle.jose.specs.Registered.{registered}
use Rattle.jose.specs.HeaderRules.{recipient_order}
use Rattle.jose.specs.ContentAlgorithm.{differing}
use Rattle.headers.specs.Components.{misspelled, sizes_of}
use Rattle.headers.specs.Headers.{outermost, protected_entries, header_entries, object_order}
use Rattle.headers.specs.Headers as headers
use Rattle.shape.specs.Shape.{inner, Recipient, recipient_of}
use Rattle.base64url.specs.Base64url.{decoded_length}
use Rattle.shape.specs.Recipients.{top_of, components_in}
use Rattle.jwe.specs.General.{shared_entries, own_entries, parameters, content_of}
use Rattle.meets.specs.Members.{Member, names_of, Distinct}
use Rattle.meets.specs.Rules.{Headers, EveryNamed, Rules}
use Rattle.meets.specs.Meets.{Octets, Object, Plain, Component, HeaderIn}
use Rattle.meets.specs.Meets as meets
use Rattle.meets.proofs.OneForOne.{OneForOne}
use Rattle.meets.proofs.Standing.{MemberStands}
use Rattle.meets.proofs.Deciding.{every_map}
use Rattle.meets.proofs.Entries.{EntryStands}
use Rattle.meets.proofs.NamesApart.{object_decided}
use Rattle.meets.proofs.RulesDecided.{parameters_distinct, rules_decided}
use Rattle.meets.proofs.ContentDecided.{ContentStands, content_decided}
use Rattle.meets.proofs.MemberEntries.{Holds, entries_of_lem, header_number, key_number}
use Rattle.meets.proofs.Shapes.{Field, Whole}
use Rattle.meets.proofs.Lookups.{Lookup, lookup, header_found, header_stands}
use Rattle.meets.proofs.ComponentsDecided.{Spelling, component_spelling, misspelled_decided, none_where_empty}
use Rattle.meets.proofs.Orders.{every_together}
use Rattle.meets.proofs.RecipientsDecided.{Holder, Formed}

-- A component that is not empty is one.
pub plain_of : (w : List ℕ) (ms : List Member) → EveryNamed w Whole ms → EveryNamed w Plain ms
plain_of w ms h = every_map (Field w Whole) (Field w Plain) (λ m f n. (f n).0) ms h

-- The entries of headers

module _ (header message : List ℕ) where
  pub protected_entries_lem : (hs : List Member) → OneForOne (MemberStands header) hs (outermost header) →
      OneForOne (EntryStands registered (read_texts header message) 0) hs (protected_entries header)
  unfolding protected_entries
  protected_entries_lem hs z = entries_of_lem registered (read_texts header message) 0 hs (outermost header) z

  module _ (es : List Entry) (hs : List Member)
      (z : OneForOne (MemberStands message) hs (headers.members_of message (value_of 2 es).start)) where
    pub shared_entries_lem : OneForOne (EntryStands registered (read_texts header message) 1) hs (shared_entries message (top_of es))
    unfolding shared_entries header_entries
    shared_entries_lem = entries_of_lem registered (read_texts header message) 1 hs (headers.members_of message (value_of 2 es).start) z

  module _ (r : Recipient) (hs : List Member)
      (z : OneForOne (MemberStands message) hs (headers.members_of message r.header)) where
    pub own_entries_lem : OneForOne (EntryStands registered (read_texts header message) 2) hs (own_entries message r)
    unfolding own_entries header_entries
    own_entries_lem = entries_of_lem registered (read_texts header message) 2 hs (headers.members_of message r.header) z

  -- 21, where each recipient has a content algorithm

  abbrev pub ContentIn : List Member → List Member → List Member → Recipient → Type 0
  ContentIn protected shared own r = ContentStands (read_texts header message) protected shared own (own_entries message r)

  module _ (es : List Entry) (protected shared : List Member)
      (zp : OneForOne (MemberStands header) protected (outermost header))
      (zs : OneForOne (MemberStands message) shared (headers.members_of message (value_of 2 es).start)) where
    pub contents_decided : (owns : List (List Member)) (rs : List Recipient) →
        OneForOne (ContentIn protected shared) owns rs →
        (differing 0 (map (content_of header message (top_of es)) rs) ≡ false) ↔ meets.OneContent protected shared owns
    unfolding parameters
    contents_decided =
        content_decided (read_texts header message) protected shared (protected_entries header)
        (shared_entries message (top_of es)) (protected_entries_lem protected zp) (shared_entries_lem es shared zs)
        (own_entries message)

module _ (known : List (List ℕ)) (header message : List ℕ) (protected shared : List Member) (es : List Entry)
    (zp : OneForOne (MemberStands header) protected (outermost header))
    (zs : OneForOne (MemberStands message) shared (headers.members_of message (value_of 2 es).start))
    (dp : Distinct (names_of protected)) (ds : Distinct (names_of shared)) where
  -- The tests of a recipient.

  abbrev pub Spelled : Recipient → Type 0
  Spelled r = misspelled message r.key ≡ false

  abbrev pub OwnPasses : Recipient → Type 0
  OwnPasses r = first (object_order message (own_entries message r)) ≡ 0

  abbrev pub RulesPass : Recipient → Type 0
  RulesPass r =
      first (recipient_order known (read_texts header message) (parameters header message (top_of es) r) (sizes_of (components_in (top_of es) r))) ≡ 0

  abbrev Passes : List Member → Recipient → Type 0
  Passes ms r = Formed ms × (Spelled r × (OwnPasses r × RulesPass r))

  abbrev Keeps : List Member → Type 0
  Keeps ms = (r : meets.Recipient ms) × meets.Ruled known protected shared r

  -- Where an own header and a key are given.
  module _ (r : Recipient) (own : List Member) (key : List ℕ)
      (zo : OneForOne (MemberStands message) own (headers.members_of message r.header))
      (keyed : (eqb (decoded_length r.key.size) 0 ≡ true) ↔ (key ≡ [])) where
    own_decided : OwnPasses r ↔ Object own
    own_decided = object_decided registered message 2 own (own_entries message r) (own_entries_lem message message r own zo)

    abbrev all : Headers
    all = record { protected = protected; shared = shared; own = own }

    recipient_rules_lem : Distinct (names_of own) → RulesPass r ↔ Rules known all key
    unfolding parameters components_in
    recipient_rules_lem d =
        rules_decided known (read_texts header message) all (protected_entries header) (shared_entries message (top_of es))
        (own_entries message r) key (sizes_of (components_in (top_of es) r)) (protected_entries_lem header message protected zp)
        (shared_entries_lem header message es shared zs) (own_entries_lem header message r own zo)
        (record { protected = dp; shared = ds; own = d }) keyed

  module _ (ms : List Member) (fs : List Entry) (h : Holds message ms fs) where
    abbrev r : Recipient
    r = recipient_of fs

    module _ (f : Formed ms) where
      key_lookup : Lookup message (ascii "encrypted_key") ms (value_of 4 fs) (present 4 fs)
      key_lookup = lookup message (ascii "encrypted_key") 4 key_number ms fs h.held f.0.distinct

      own_lookup : Lookup message (ascii "header") ms (value_of 3 fs) (present 3 fs)
      own_lookup = lookup message (ascii "header") 3 header_number ms fs h.held f.0.distinct

      key_spelling : Spelling message (ascii "encrypted_key") ms (inner (value_of 4 fs))
      key_spelling =
          component_spelling message (ascii "encrypted_key") ms (value_of 4 fs) (present 4 fs)
          (plain_of (ascii "encrypted_key") ms f.1.key) key_lookup

      own_stands : (own : List Member) → HeaderIn (ascii "header") ms own →
          OneForOne (MemberStands message) own (headers.members_of message r.header)
      own_stands own i =
          header_stands message (ascii "header") ms (value_of 3 fs) (present 3 fs) f.1.header own own_lookup i

      spelled_decided : Spelled r ↔ ((xs : List ℕ) × Octets xs × Component (ascii "encrypted_key") ms xs)
      spelled_decided = misspelled_decided message (ascii "encrypted_key") ms (inner (value_of 4 fs)) key_spelling

      keyed : (key : List ℕ) → Octets key → Component (ascii "encrypted_key") ms key →
          (eqb (decoded_length r.key.size) 0 ≡ true) ↔ (key ≡ [])
      keyed = none_where_empty message (ascii "encrypted_key") ms (inner (value_of 4 fs)) key_spelling

    keeps : Passes ms r → Keeps ms
    keeps p =
        let f = p.0 in
        let (key, o, c) = (spelled_decided f).0 p.1.0 in
        let (own, i) = header_found message (ascii "header") ms (value_of 3 fs) (present 3 fs) f.1.header
        (own_lookup f) in
        let z = own_stands f own i in
        let k = keyed f key o c in
        let object = (own_decided r own key z k).0 p.1.1.0 in
        let read : meets.Recipient ms = record {
          key = key;
          own = own;
          octets = o;
          shape = f.1;
          object = f.0;
          spelled = c;
          header = i;
          own_object = object;
        } in
        (read, (recipient_rules_lem r own key z k object.distinct).0 p.1.1.1)

    passes : Keeps ms → Passes ms r
    passes (x, rules) =
        let f : Formed ms = (x.object, x.shape) in
        let z = own_stands f x.own x.header in
        let k = keyed f x.key x.octets x.spelled in (
          f,
          (
            (spelled_decided f).1 (x.key, x.octets, x.spelled),
            (
              (own_decided r x.own x.key z k).1 x.own_object,
              (recipient_rules_lem r x.own x.key z k x.own_object.distinct).1 rules,
            ),
          ),
        )

  recipient_decided : (ms : List Member) (r : Recipient) → Holder message ms r → Passes ms r ↔ Keeps ms
  recipient_decided ms r h =
      subst (λ (u : Recipient). Passes ms u ↔ Keeps ms) (sym h.made)
      (keeps ms h.entries h.holds, passes ms h.entries h.holds)

  -- All of them.

  abbrev AllKeep : List (List Member) → Type 0
  AllKeep rs = (each : Every meets.Recipient rs) × meets.EachRuled known protected shared rs each

  rules_apart : (rs : List (List Member)) → Every Keeps rs → AllKeep rs
  rules_apart [] all = (tt, tt)
  rules_apart (ms ∷ rs) all =
      let others = rules_apart rs all.1 in ((all.0.0, others.0), (all.0.1, others.1))

  rules_beside : (rs : List (List Member)) (each : Every meets.Recipient rs) →
      meets.EachRuled known protected shared rs each → Every Keeps rs
  rules_beside [] each rules = tt
  rules_beside (ms ∷ rs) each rules = ((each.0, rules.0), rules_beside rs each.1 rules.1)

  pub recipients_decided : (rs : List (List Member)) (us : List Recipient) → OneForOne (Holder message) rs us →
      (Every Formed rs × (Every Spelled us × (Every OwnPasses us × Every RulesPass us))) ↔ AllKeep rs
  recipients_decided rs us z =
      let all = every_together (Holder message) Keeps Formed Spelled OwnPasses RulesPass recipient_decided rs us z in
      ((λ h. rules_apart rs (all.0 h)), (λ h. all.1 (rules_beside rs h.0 h.1)))

  -- 21 on all that keep them.

  abbrev content_in : List Member → Recipient → Type 0
  content_in = ContentIn header message protected shared

  content_in_lem : (ms : List Member) (u : Recipient) → Holder message ms u → (x : meets.Recipient ms) →
      meets.Ruled known protected shared x → content_in x.own u
  content_in_lem ms u h x rules =
      let z = own_stands ms h.entries h.holds (x.object, x.shape) x.own x.header in
      subst (content_in x.own) (sym h.made) (
        own_entries_lem header message (recipient_of h.entries) x.own z,
        record {
          distinct =
              parameters_distinct (record { protected = protected; shared = shared; own = x.own })
              (record { protected = dp; shared = ds; own = x.own_object.distinct }) rules.apart;
          enc = rules.enc;
          strings = rules.strings;
        },
      )

  contents_in : (rs : List (List Member)) (us : List Recipient) → OneForOne (Holder message) rs us →
      (each : Every meets.Recipient rs) → meets.EachRuled known protected shared rs each →
      OneForOne content_in (meets.owns rs each) us
  contents_in [] [] z each rules = tt
  contents_in [] (u ∷ us) z each rules = absurd z
  contents_in (ms ∷ rs) [] z each rules = absurd z
  contents_in (ms ∷ rs) (u ∷ us) z each rules =
      (content_in_lem ms u z.0 each.0 rules.0, contents_in rs us z.1 each.1 rules.1)

  pub one_content_decided : (rs : List (List Member)) (us : List Recipient) → OneForOne (Holder message) rs us →
      (each : Every meets.Recipient rs) → meets.EachRuled known protected shared rs each →
      (differing 0 (map (content_of header message (top_of es)) us) ≡ false)
      ↔ meets.OneContent protected shared (meets.owns rs each)
  one_content_decided rs us z each rules =
      contents_decided header message es protected shared zp zs (meets.owns rs each) us (contents_in rs us z each rules)
