-- Of a message whose top level has passed: what opens in the object that it is, in `recipients`, in the elements of
-- that and in headers reads. Members are rows of what the reader found, and 10 has asked for their kinds.
use mathlib.Core.Path.{◌≡◌, refl, ap, sym, subst, ◌∙◌}
use mathlib.Core.Bool.{Bool, true, false, ◌||◌, cond, true≢false}
use mathlib.Core.List.{List, [], ◌∷◌, ◌++◌, map, flat_map}
use Prim.Native.Nat.{ℕ, zero, suc, ◌<◌}
use native.Mathlib.Nat.{not-suc-le-zero, le_of_suc-le-suc}
use native.Mathlib.Omega.{arith}
use lib.ListN.{length, get_or}
use lib.Dec.{eqb, ltb}
use borrow.Author.Tests.{eqb-true, eq-eqb, not-false}
use Rattle.grammar.specs.Grammar.{curly, square}
use Rattle.grammar.specs.Places.{Member, Element}
use Rattle.grammar.specs.Bounds.{Every}
use Rattle.grammar.specs.Reader.{skip_space, members_at, elements_at}
use Rattle.json_read.specs.Inner.Known.{KnownIn}
use Rattle.json_read.proofs.Knowing.{text_known}
use Rattle.json_read.proofs.RowValues.{Reads, reads_known, members_read_lem, elements_read}
use Rattle.prelude.specs.Any.{any}
use Rattle.rows.specs.Rows.{Entry, one_text, entries_in, numbered, present, value_of, repeated}
use Rattle.prelude.specs.Refusals.{Test, ◌if◌, first}
use Rattle.prelude.proofs.Refusals.{nonzero, first_append}
use Rattle.jose.specs.HeaderRules.{is_empty}
use Rattle.headers.specs.Headers.{is_nothing, unread, outermost, object_order}
use Rattle.shape.specs.Shape.{member_names, member_entries, wrong_header, wrong_member, wrong_top}
use Rattle.shape.specs.Shape.{no_object, wrong_elements, wrong_in_element, wrong_element, recipient_of}
use Rattle.shape.specs.Recipients.{top_entries, top_order, elements_in, element_entries, element_order, elements_order}
use Rattle.shape.specs.Recipients.{recipients_in}
use Rattle.shape.specs.Inner.Answers.{array_order, starts_of}
use Rattle.shape.proofs.Members.{member_is, in_element_is}
use Rattle.shape.proofs.Reading.{element_nonzero}

or_none : (a b : Bool) → (a || b) ≡ false → (a ≡ false) × (b ≡ false)
or_none true b e = absurd (true≢false e)
or_none false b e = (refl, e)

none_of : {A : Type 0} (f : A → Bool) (xs : List A) → any f xs ≡ false → Every (λ x. f x ≡ false) xs
unfolding any
none_of f [] e = tt
none_of f (x ∷ xs) e = let o = or_none (f x) (any f xs) e in (o.0, none_of f xs o.1)

every_map : {A : Type 0} {P Q : A → Type 0} → ((x : A) → P x → Q x) → (xs : List A) → Every P xs → Every Q xs
every_map f [] h = tt
every_map f (x ∷ xs) h = (f x h.0, every_map f xs h.1)

pub every_at : (P : ℕ → Type 0) (xs : List ℕ) (i : ℕ) → Every P xs → i < length xs → P (get_or xs i 0)
every_at P [] i h l = absurd (not-suc-le-zero l)
every_at P (x ∷ xs) zero h l = h.0
every_at P (x ∷ xs) (suc i) h l = every_at P xs i h.1 (le_of_suc-le-suc l)

-- A test that is passed, and those behind it.
passes : (b : Bool) (n rest : ℕ) → cond b (suc n) rest ≡ 0 → (b ≡ false) × (rest ≡ 0)
passes true n rest e = absurd (omega (arith, e))
passes false n rest e = (refl, e)

-- The kinds that 10 asks for.
module _ (message : List ℕ) (e : Entry) (right : wrong_member message e ≡ false) where
  pub array_kind : numbered 5 e ≡ true → e.member.kind ≡ 1
  array_kind h =
      let n = eqb-true e.number 5 h in
      let is = member_is message e false false false true (ap (λ z. eqb z 0) n) (ap (λ z. eqb z 2) n)
      (ap (λ z. eqb z 3) n) h in
      eqb-true e.member.kind 1 (not-false _ (is ∙ right))

  header_kind_of : wrong_header message e ≡ false → e.member.kind ≡ 0
  header_kind_of w = eqb-true e.member.kind 0 (not-false _ (or_none _ _ w).0)

  pub shared_kind : numbered 2 e ≡ true → e.member.kind ≡ 0
  shared_kind h =
      let n = eqb-true e.number 2 h in
      header_kind_of
      (member_is message e false true false false (ap (λ z. eqb z 0) n) h (ap (λ z. eqb z 3) n) (ap (λ z. eqb z 5) n)
      ∙ right)

  pub header_kind : numbered 3 e ≡ true → e.member.kind ≡ 0
  header_kind h =
      let n = eqb-true e.number 3 h in
      header_kind_of
      (member_is message e false false true false (ap (λ z. eqb z 0) n) (ap (λ z. eqb z 2) n) h (ap (λ z. eqb z 5) n)
      ∙ right)

-- Entries whose values read: the first one with a number, if all with it are of one kind.
module _ (message : List ℕ) where
  abbrev pub ValueReads : Entry → Type 0
  ValueReads e = Reads 12 message e.member.value_start e.member.kind

  pub entries_read : (names : List (List ℕ)) (o : ℕ) (ms : List Member) →
      Every (λ m. Reads 12 message m.value_start m.kind) ms → Every ValueReads (entries_in names message o ms)
  unfolding entries_in
  entries_read names o [] h = tt
  entries_read names o (m ∷ ms) h = (h.0, entries_read names o ms h.1)

  pub value_reads : (n k : ℕ) (es : List Entry) → Every ValueReads es →
      Every (λ e. numbered n e ≡ true → e.member.kind ≡ k) es → present n es ≡ true →
      Reads 12 message (value_of n es).start k
  unfolding present any value_of
  value_reads n k [] h f p = absurd (true≢false (sym p))
  value_reads n k (e ∷ es) h f p = cases (numbered n e) refl p (value_reads n k es h.1 f.1)
    where
      cases : (b : Bool) → numbered n e ≡ b → (b || any (numbered n) es) ≡ true →
          (any (numbered n) es ≡ true → Reads 12 message (value_of n es).start k) →
          Reads 12 message
          (cond b (record { start = e.member.value_start; size = e.member.value_size }) (value_of n es)).start k
      cases true b p later = subst (Reads 12 message e.member.value_start) (f.0 b) h.0
      cases false b p later = later p

-- A header: its start is 0 where there is none.
abbrev pub HeaderKnown : List ℕ → ℕ → Type 0
HeaderKnown message start = (start ≡ 0 → ⊥) → KnownIn curly 12 message start

start_present : (n : ℕ) (es : List Entry) → ((value_of n es).start ≡ 0 → ⊥) → present n es ≡ true
unfolding present any value_of
start_present n [] f = absurd (f refl)
start_present n (e ∷ es) f = cases (numbered n e) f (start_present n es)
  where
    cases : (b : Bool) →
        ((cond b (record { start = e.member.value_start; size = e.member.value_size }) (value_of n es)).start ≡ 0 → ⊥) →
        (((value_of n es).start ≡ 0 → ⊥) → any (numbered n) es ≡ true) → (b || any (numbered n) es) ≡ true
    cases true f g = refl
    cases false f g = g f

header_known : (message : List ℕ) (n : ℕ) (es : List Entry) → Every (ValueReads message) es →
    Every (λ e. numbered n e ≡ true → e.member.kind ≡ 0) es → HeaderKnown message (value_of n es).start
header_known message n es r k f = reads_known curly (value_reads message n 0 es r k (start_present n es f))

-- The top level

module _ (message : List ℕ) where
  pub top_object : unread message ≡ false → KnownIn curly 12 message (skip_space message 0)
  unfolding unread
  top_object e = text_known 12 message (λ z. true≢false (sym (ap is_nothing z) ∙ e))

  top_reads : Every (ValueReads message) (top_entries message)
  unfolding top_entries member_entries outermost
  top_reads =
      entries_read message member_names 1 (members_at 12 message (skip_space message 0)) (members_read_lem 12 message _)

  module _ (passed : first (top_order message) ≡ 0) where
    top_right : Every (λ e. wrong_member message e ≡ false) (top_entries message)
    unfolding first top_order object_order wrong_top
    top_right =
        let es = top_entries message in
        let a = passes (unread message) 6 _ passed in
        let b = passes (ltb 32 (length es)) 7 _ a.1 in
        let c = passes (repeated false (one_text message) es) 8 _ b.1 in
        let d = passes (wrong_top message es) 9 0 c.1 in
        none_of (wrong_member message) es (or_none (any (wrong_member message) es) _ d.0).0

    pub recipients_known : present 5 (top_entries message) ≡ true →
        KnownIn square 12 message (value_of 5 (top_entries message)).start
    recipients_known p =
        reads_known square (value_reads message 5 1 (top_entries message) top_reads
        (every_map (λ e. array_kind message e) (top_entries message) top_right) p)

    pub shared_known : HeaderKnown message (value_of 2 (top_entries message)).start
    shared_known =
        header_known message 2 (top_entries message) top_reads
        (every_map (λ e. shared_kind message e) (top_entries message) top_right)

    top_header : HeaderKnown message (value_of 3 (top_entries message)).start
    top_header =
        header_known message 3 (top_entries message) top_reads
        (every_map (λ e. header_kind message e) (top_entries message) top_right)

-- The elements of `recipients`

objects_known : (message : List ℕ) (xs : List Element) → Every (λ x. no_object x ≡ false) xs →
    Every (λ x. Reads 12 message x.start x.kind) xs →
    Every (KnownIn curly 12 message) (starts_of xs)
unfolding starts_of
objects_known message [] h r = tt
objects_known message (x ∷ xs) h r =
    let k = eqb-true x.kind 0 (not-false _ h.0) in
    (reads_known curly (subst (Reads 12 message x.start) k r.0), objects_known message xs h.1 r.1)

pub elements_known : (message : List ℕ) (at : ℕ) → first (array_order (elements_at 12 message at)) ≡ 0 →
    Every (KnownIn curly 12 message) (starts_of (elements_at 12 message at))
unfolding first array_order wrong_elements
elements_known message at passed =
    let xs = elements_at 12 message at in
    let a = passes (wrong_elements xs) 9 _ passed in
    let o = or_none (is_empty xs) (any no_object xs) a.0 in
    objects_known message xs (none_of no_object xs o.1) (elements_read 12 message at)

-- Their own headers.

element_header : (message : List ℕ) (start : ℕ) → first (element_order message start) ≡ 0 →
    HeaderKnown message (value_of 3 (element_entries message start)).start
unfolding first element_order object_order wrong_element element_entries member_entries
element_header message start passed =
    let es = element_entries message start in
    let a = passes (ltb 32 (length es)) 7 _ passed in
    let b = passes (repeated false (one_text message) es) 8 _ a.1 in
    let c = passes (wrong_element message es) 9 0 b.1 in
    let reads = entries_read message member_names 1 (members_at 12 message start) (members_read_lem 12 message start) in
    header_known message 3 es reads
    (every_map (λ e right h. header_kind message e (in_element_is message e true (numbered 4 e) h refl ∙ right) h) es
    (none_of (wrong_in_element message) es c.0))

both_pass : (xs ys : List Test) → nonzero xs ≡ true → first (xs ++ ys) ≡ 0 → (first xs ≡ 0) × (first ys ≡ 0)
both_pass xs ys p e = cases (eqb (first xs) 0) refl (sym (first_append xs ys p) ∙ e)
  where
    cases : (b : Bool) → eqb (first xs) 0 ≡ b → cond b (first ys) (first xs) ≡ 0 → (first xs ≡ 0) × (first ys ≡ 0)
    cases true b q = (eqb-true (first xs) 0 b, q)
    cases false b q = absurd (true≢false (sym (eq-eqb (first xs) 0 q) ∙ b))

element_headers : (message : List ℕ) (xs : List Element) →
    first (flat_map (λ (x : Element). element_order message x.start) xs) ≡ 0 →
    Every (λ r. HeaderKnown message r.header)
    (map (λ (x : Element). recipient_of (element_entries message x.start)) xs)
unfolding flat_map
element_headers message [] e = tt
element_headers message (x ∷ xs) e =
    let b = both_pass (element_order message x.start) _ (element_nonzero message x.start) e in
    (element_header message x.start b.0, element_headers message xs b.1)

pub own_known : (message : List ℕ) → first (top_order message) ≡ 0 →
    first (elements_order message (top_entries message)) ≡ 0 →
    Every (λ r. HeaderKnown message r.header) (recipients_in message (top_entries message))
unfolding first elements_order recipients_in
own_known message top passed = cases (present 5 (top_entries message)) passed
  where
    cases : (b : Bool) →
        first (cond b
        (10 if wrong_elements (elements_in message (top_entries message))
        ∷ 11 if ltb 8 (length (elements_in message (top_entries message)))
        ∷ flat_map (λ (x : Element). element_order message x.start) (elements_in message (top_entries message)))
        []) ≡ 0 →
        Every (λ r. HeaderKnown message r.header)
        (cond b
        (map (λ (x : Element). recipient_of (element_entries message x.start))
        (elements_in message (top_entries message)))
        (recipient_of (top_entries message) ∷ []))
    cases true e =
        let xs = elements_in message (top_entries message) in
        let a = passes (wrong_elements xs) 9 _ e in
        let b = passes (ltb 8 (length xs)) 10 _ a.1 in
        element_headers message xs b.1
    cases false e = (top_header message top, tt)
