-- The reader decides the grammar: it answers exactly the texts that have a reading within the levels that keeps the
-- rules, and its answer is that reading's.
use mathlib.Core.Path.{◌≡◌, refl, sym, ap, subst, ◌∙◌}
use mathlib.Core.List.{List, [], ◌∷◌, ◌++◌, append-nil}
use mathlib.Core.Bool.{Bool, true, false, ◌&&◌, cond}
use Prim.Native.Nat.{ℕ, ◌+◌, ◌≤◌}
use native.Mathlib.Omega.{arith}
use lib.ListN.{length, length-append, drop}
use lib.Seq.{drop-length}
use lib.Dec.{T, eqb, eqb→eq, eqb_refl}
use Rattle.grammar.specs.Grammar.{is_space, octets, curly, opening, Value, nested, empty, string, number, literal}
use Rattle.grammar.specs.Grammar.{leaves_value, Text, leaves}
use Rattle.grammar.specs.Places.{start_of, size_of, kind_of, kind, placed, placed_text}
use Rattle.grammar.specs.Strings.{paired}
use Rattle.grammar.specs.Utf8.{utf8}
use Rattle.grammar.specs.Reader.{octet_at, skip_space, Answer, nothing, found, value_at, wholly, read_text}
use Rattle.grammar.specs.Readings.{Reading}
use Rattle.grammar.specs.Shown.{Shown, Everywhere}
use Rattle.grammar.proofs.Parse.{At, Got, failed, got, true→T, scan, run, lead, lead_nested, Node, value}
use Rattle.grammar.proofs.Scan.{T→true, scan_octets, scan_halts, scanned}
use Rattle.grammar.proofs.Complete.{node}
use Rattle.grammar.proofs.Values.{value_read, after_halts, after_skip}
use Rattle.grammar.proofs.Utf8Test.{utf8_sound, utf8_complete}
use Rattle.grammar.proofs.Positions.{Rest, rest_along, octet_nil, octet_cons, skip_scan, rest_scan}
use Rattle.grammar.proofs.ReadLabels.{Valued, answer_of}
use Rattle.grammar.proofs.ReadValues.{value_agrees}
use Rattle.grammar.proofs.SoundValues.{value_sound, Leads, leads}
use Rattle.grammar.proofs.FirstOctet.{lead_of, first_octet, is_curly, object_kind, kind_object}
use Rattle.grammar.proofs.Shown.{everywhere}

rest_whole : (s : List ℕ) → Rest s 0 s
rest_whole s = record { is = refl }

-- The value of a text stands in it behind the space.
pub rest_value : (s : List ℕ) (t : Text) → leaves t ≡ s →
    Rest s (length (octets t.before)) (leaves_value t.value ++ octets t.after)
unfolding leaves
rest_value s t e =
    let r = rest_along {s = s} {n = 0} (octets t.before) (record { is = sym e }) in
    let z : 0 + length (octets t.before) ≡ length (octets t.before) = omega arith in
    subst (λ m. Rest s m (leaves_value t.value ++ octets t.after)) z r

placed_kind : (v : Value) (n : ℕ) → kind_of (placed n v) ≡ kind v
unfolding placed kind
placed_kind (nested b x es y) n = refl
placed_kind (empty b x y) n = refl
placed_kind (string x) n = refl
placed_kind (number x) n = refl
placed_kind (literal x) n = refl

-- The octet that an object begins with.
curly_code : (c : ℕ) → lead c ≡ lead_nested curly → c ≡ opening curly
curly_code c e = subst (Leads paired c) e (leads paired c)

-- Where a text has a reading, the reader answers its end, and it begins where the reader looks.
pub read_complete : (l : ℕ) (s : List ℕ) (r : Reading l s) →
    let q = placed_text r.text in
    (read_text l s ≡ found (start_of q + size_of q) 0) × (start_of q ≡ skip_space s 0)
unfolding placed_text leaves read_text
read_complete l s r =
    let t = r.text in
    let v = t.value in
    let n = length (octets t.before) in
    let A = octets t.after in
    let h = rest_value s t r.reads in
    let here = scan is_space n (leaves_value v ++ A) in
    let h' = rest_scan is_space h in
    let L = length-append (leaves_value v) A in
    let M = length-append (octets t.before) (leaves_value v ++ A) in
    let N = ap length r.reads in
    let m = value_agrees s l here.pos here.rest h' in
    let q = value_read paired v l (length s) n A r.within (omega arith) (after_halts paired t.after) r.pairs in
    let w = m.valued (node n v) _ q in
    let z : 0 + n ≡ n = omega arith in
    let starts : start_of (placed n v) ≡ skip_space s 0 =
    w.starts
    ∙ sym (skip_scan is_space (rest_whole s)
    ∙ ap (λ x. (scan is_space 0 x).pos) (sym r.reads)
    ∙ ap (λ (x : At). x.pos) (scan_octets is_space 0 t.before (leaves_value v ++ A))
    ∙ ap (λ k. (scan is_space k (leaves_value v ++ A)).pos) z) in
    let first = first_octet v n A in
    let code_is : first.code ≡ opening curly = curly_code first.code (first.leads ∙ kind_object v r.object) in
    let begins : Rest s here.pos (first.code ∷ first.rest) = record { is = h'.is ∙ first.is } in
    let octet_is : octet_at s (skip_space s 0) ≡ opening curly =
    ap (octet_at s) (sym starts ∙ w.starts) ∙ octet_cons begins ∙ code_is in
    let value_is : value_at l s (skip_space s 0) ≡ found (start_of (placed n v) + size_of (placed n v)) 0 =
    ap (value_at l s) (sym starts ∙ w.starts) ∙ m.same ∙ ap answer_of q
    ∙ ap (found (start_of (placed n v) + size_of (placed n v))) (placed_kind v n ∙ r.object) in
    let end_is : skip_space s (start_of (placed n v) + size_of (placed n v)) ≡ length s =
    sym w.after ∙ ap (λ (x : At). x.pos) (after_skip paired t.after (n + length (leaves_value v)))
    ∙ omega arith in (
      rw (
        octet_is,
        T→true (utf8 s) (utf8_complete s r.well_formed),
        value_is,
        end_is,
        T→true
            (eqb (length s) (length s)) (eqb_refl (length s)),
      ),
      starts,
    )

-- And back

no_answer : {e k : ℕ} → nothing ≡ found e k → ⊥
no_answer q = let z : ◌≡◌ {A = ℕ} 0 1 = cc in omega arith

-- What an answer of the reader of texts comes from.
record Answered (l : ℕ) (s : List ℕ) : Type 0 where
  end : ℕ
  kind : ℕ
  begins : octet_at s (skip_space s 0) ≡ opening curly
  well_formed : T (utf8 s)
  value_is : value_at l s (skip_space s 0) ≡ found end kind
  ends : skip_space s end ≡ length s

answered : (l : ℕ) (s : List ℕ) (e k : ℕ) → read_text l s ≡ found e k → Answered l s
unfolding read_text
answered l s e k q =
    tests (eqb (octet_at s (skip_space s 0)) (opening curly)) (utf8 s) refl refl q
  where
    end : (d j : ℕ) → value_at l s (skip_space s 0) ≡ found d j → (b : Bool) → eqb (skip_space s d) (length s) ≡ b →
        octet_at s (skip_space s 0) ≡ opening curly → T (utf8 s) → cond b (found d j) nothing ≡ found e k → Answered l s
    end d j v true p o u h = record {
      end = d;
      kind = j;
      begins = o;
      well_formed = u;
      value_is = v;
      ends = eqb→eq (skip_space s d) (length s) (true→T (eqb (skip_space s d) (length s)) p);
    }
    end d j v false p o u h = absurd (no_answer h)

    whole : (a : Answer) → value_at l s (skip_space s 0) ≡ a → octet_at s (skip_space s 0) ≡ opening curly → T (utf8 s) →
        wholly s a ≡ found e k → Answered l s
    whole nothing v o u h = absurd (no_answer h)
    whole (found d j) v o u h = end d j v (eqb (skip_space s d) (length s)) refl o u h

    tests : (b c : Bool) → eqb (octet_at s (skip_space s 0)) (opening curly) ≡ b → utf8 s ≡ c →
        cond (b && c) (wholly s (value_at l s (skip_space s 0))) nothing ≡ found e k → Answered l s
    tests true true p u h =
        whole (value_at l s (skip_space s 0)) refl
        (eqb→eq (octet_at s (skip_space s 0)) (opening curly)
        (true→T (eqb (octet_at s (skip_space s 0)) (opening curly)) p))
        (true→T (utf8 s) u) h
    tests true false p u h = absurd (no_answer h)
    tests false c p u h = absurd (no_answer h)

-- A value whose leaves begin with the object's bracket is an object.
begins_object : (v : Value) (n : ℕ) (r u : List ℕ) → leaves_value v ++ r ≡ opening curly ∷ u → kind v ≡ 0
unfolding lead
begins_object v n r u e =
    let f = first_octet v n r in
    let stands : (scan is_space n (leaves_value v ++ r)).rest ≡ opening curly ∷ u =
    ap (λ x. (scan is_space n x).rest) e ∙ ap (λ (x : At). x.rest) (scan_halts is_space n (opening curly ∷ u) tt) in
    let same : opening curly ∷ u ≡ f.code ∷ f.rest = sym stands ∙ f.is in
    let code_is : opening curly ≡ f.code = cc in
    let leads_is : lead_nested curly ≡ lead_of v = ap lead code_is ∙ f.leads in
    object_kind v (subst (λ z. T (is_curly z)) leads_is tt)

object_of_lem : (s u : List ℕ) → (scan is_space 0 s).rest ≡ u → (v : Value) (r : List ℕ) →
    leaves_value v ++ r ≡ (scan is_space 0 s).rest → octet_at s (skip_space s 0) ≡ opening curly → kind v ≡ 0
object_of_lem s [] i v r j o =
    let h : Rest s (scan is_space 0 s).pos [] = record { is = (rest_scan is_space (rest_whole s)).is ∙ i } in
    let e = ap (octet_at s) (skip_scan is_space (rest_whole s)) ∙ octet_nil h in
    let z : ◌≡◌ {A = ℕ} 256 123 = sym e ∙ o in
    absurd (omega arith)
object_of_lem s (c ∷ u) i v r j o =
    let h : Rest s (scan is_space 0 s).pos (c ∷ u) = record { is = (rest_scan is_space (rest_whole s)).is ∙ i } in
    let e = ap (octet_at s) (skip_scan is_space (rest_whole s)) ∙ octet_cons h in
    let z : c ≡ opening curly = sym e ∙ o in
    begins_object v 0 r u (j ∙ i ∙ ap (λ x. x ∷ u) z)

-- A text that the reader answers has a reading.
pub read_sound : (l : ℕ) (s : List ℕ) (e k : ℕ) → read_text l s ≡ found e k → Reading l s
unfolding leaves
read_sound l s e k q =
    let a = answered l s e k q in
    let m = value_agrees s l here.pos here.rest (rest_scan is_space (rest_whole s)) in
    let v = ap (value_at l s) (sym (skip_scan is_space (rest_whole s))) ∙ a.value_is in
    from (value paired l (length s) here) refl a (sym m.same ∙ v) (λ n st p. m.valued n st p)
  where
    here : At
    here = scan is_space 0 s

    from : (g : Got Node) → value paired l (length s) here ≡ g → (a : Answered l s) → answer_of g
        ≡ found a.end a.kind →
        ((n : Node) (st : At) → g ≡ got n st → Valued s here.pos n st) → Reading l s
    from failed p a h w = absurd (no_answer h)
    from (got n st) p a h w =
        let y = value_sound paired l (length s) here n st p in
        let z = w n st refl in
        let ends : start_of n.placed + size_of n.placed ≡ a.end = cc in
        let at_end : st.pos ≡ length s = z.after ∙ ap (skip_space s) ends ∙ a.ends in
        let nil : st.rest ≡ [] = sym z.rest.is ∙ ap (λ m. drop m s) at_end ∙ drop-length s in
        let rest_is : leaves_value y.tree ++ octets y.space ≡ here.rest =
        sym (append-nil (leaves_value y.tree ++ octets y.space))
        ∙ ap (λ x. (leaves_value y.tree ++ octets y.space) ++ x) (sym nil)
        ∙ y.spelled.text in
        record {
          text = record { before = run is_space s; value = y.tree; after = y.space };
          reads = ap (λ x. octets (run is_space s) ++ x) rest_is ∙ (scanned is_space 0 s).text;
          object = object_of_lem s here.rest refl y.tree (octets y.space) rest_is a.begins;
          within = y.deep;
          well_formed = utf8_sound s a.well_formed;
          pairs = y.kept;
        }

-- Where the reader answers nothing, there is no reading.
pub read_none : (l : ℕ) (s : List ℕ) → read_text l s ≡ nothing → Reading l s → ⊥
read_none l s q r = no_answer (sym q ∙ (read_complete l s r).0)

-- The reader shows every part of a reading.
pub read_shows : (l : ℕ) (s : List ℕ) (r : Reading l s) → Everywhere (Shown l s) (placed_text r.text)
unfolding placed_text
read_shows l s r =
    let t = r.text in
    everywhere s l t.value (length (octets t.before)) (octets t.after) (rest_value s t r.reads)
    (after_halts paired t.after) r.within r.pairs

-- More levels change no answer.
pub read_more : (l m : ℕ) (s : List ℕ) (e k : ℕ) → l ≤ m → read_text l s ≡ found e k → read_text m s ≡ found e k
read_more l m s e k h q =
    let r = read_sound l s e k q in
    let r' : Reading m s = record {
      text = r.text;
      reads = r.reads;
      object = r.object;
      within = omega (arith, r.within);
      well_formed = r.well_formed;
      pairs = r.pairs;
    } in
    (read_complete m s r').0 ∙ sym (read_complete l s r).0 ∙ q
