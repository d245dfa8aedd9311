-- What `replay` asks of the port is what the call answers: an answer and records behind it (`laid`), of the page that the call
-- fills (`told`); no room (`nothing`); and the collected rows, by what the reader says (`no_rows`, `some-rows`), which have room (`room`).
-- Assumes nothing.
use Prim.Native.Nat.{ℕ, ◌+◌, ◌*◌, ◌≤◌, ◌<◌, min}
use mathlib.Core.Path.{◌≡◌, refl, sym, ap, ◌∙◌, subst}
use mathlib.Core.List.{List, [], ◌++◌, flat_map}
use native.Mathlib.Omega.{arith}
use lib.ListN.{length, take, replicate, length-replicate}
use lib.Seq.{sets}
use borrow.Author.Tests.{le-leb}
use Rattle.std.specs.Prelude.{Ok, Err}
use Rattle.rules.specs.Numbers.{scratch_size, page_size, answer_size}
use Rattle.rules.specs.declared.Answer.{Answer}
use Rattle.rules.specs.declared.Refusal.{Refusal}
use Rattle.rules.specs.declared.Diagnostic.{Diagnostic}
use Rattle.rules.specs.Base.{if'◌then◌else◌}
use Rattle.rules.specs.Answer.{read_with, call}
use Rattle.laws.proofs.Base.Stores.{sets-append, sets-kept}
use Rattle.laws.proofs.Sheet.Collect.{all-few}
use Rattle.errors.specs.declared.Errors.{Errors}
use Rattle.errors.specs.Bytes.{Stored}
use Rattle.errors.specs.Records.{record_bytes}
use Rattle.types.specs.declared.Gathered.{Gathered}
use Rattle.types.specs.Post.{Collects}
use Rattle.bridge_core.specs.Run.{answer_of, records_of, Runnable}
use Rattle.bridge_core.proofs.RunLaws.{total-is, call-answer, call-list}
use Rattle.layout.specs.Layout.{answer_bytes, layout_of, fitting, headed, Written}
use Rattle.replay.specs.Port.{Laid, Told, roomy, CollectedRows, rows_by, RowsOf}

-- ## Records behind an answer

pub laid : {a : Answer} {ds : List Diagnostic} {n r m : ℕ} {out out₁ out₂ : List ℕ} → roomy ≤ length out → n ≤ page_size → Written a n out r out₁
    → Stored out₁ answer_size m (flat_map record_bytes ds) out₂ → Laid a ds n out out₂
unfolding headed fitting if'◌then◌else◌
laid {a} {ds} {n} {out = out} {out₁} h k w p =
    let few : fitting n (length out) ≡ n = omega arith in
    let long : length (answer_bytes a n) ≡ answer_size = subst (λ (m : ℕ). length (answer_bytes a m) ≡ answer_size) few (w.long (omega arith)) in
    let behind : answer_size ≡ 0 + length (answer_bytes a n) = omega (arith, long) in
    let front : out₁ ≡ sets out 0 (answer_bytes a n) = rw (le-leb answer_size (length out) (omega arith), if'◌then◌else◌, few) at w.bytes in
    record {
      bytes =
          p.stored
          ∙ ap (λ (l : List ℕ). sets l answer_size (flat_map record_bytes ds)) front
          ∙ ap (λ (m : ℕ). sets (sets out 0 (answer_bytes a n)) m (flat_map record_bytes ds)) behind
          ∙ sets-append out 0 (answer_bytes a n) (flat_map record_bytes ds);
    }

-- ## The page

-- for a scratch of k bytes and a list of m places
page : (k m : ℕ) (s sc out out' : List ℕ) (a : Answer) (zs list : List Diagnostic) (n : ℕ) → length sc ≡ k → length zs ≡ m → a ≡ (call s sc zs).answer
    → list ≡ (call s sc zs).list → n ≡ min a.total m → Laid a (take n list) (length (take n list)) out out'
    → out' ≡ sets out 0 (layout_of (call s sc []).answer (take m (records_of s k)))
unfolding layout_of
page k m s sc out out' a zs list n is-sc is-zs is-a is-list is-n l =
    let ds : List Diagnostic = records_of s k in
    let answer : a ≡ answer_of s k = is-a ∙ sym (call-answer s sc zs) ∙ ap (answer_of s) is-sc in
    let total : a.total ≡ length ds = ap (λ (x : Answer). x.total) answer ∙ total-is s k in
    let stored : list ≡ sets zs 0 ds = is-list ∙ sym (call-list s sc zs) ∙ ap (λ (j : ℕ). sets zs 0 (records_of s j)) is-sc in
    let many : n ≡ min (length ds) (length zs) = is-n ∙ ap (λ (t : ℕ). min t m) total ∙ ap (min (length ds)) (sym is-zs) in
    let records : take n list ≡ take m ds =
    ap (λ (x : List Diagnostic). take n x) stored
    ∙ ap (λ (j : ℕ). take j (sets zs 0 ds)) many
    ∙ sets-kept zs ds
    ∙ ap (λ (j : ℕ). take j ds) is-zs in
    let same : a ≡ (call s sc []).answer = is-a ∙ sym (call-answer s sc zs) ∙ call-answer s sc [] in
    l.bytes
    ∙ ap (λ (x : List Diagnostic). sets out 0 (answer_bytes a (length x) ++ flat_map record_bytes x)) records
    ∙ ap (λ (x : Answer). sets out 0 (answer_bytes x (length (take m ds)) ++ flat_map record_bytes (take m ds))) same

pub told : {s sc out out' : List ℕ} {a : Answer} (blank : Diagnostic) {list : List Diagnostic} {n : ℕ} → sc ≡ replicate scratch_size 0
    → a ≡ (call s sc (replicate page_size blank)).answer → list ≡ (call s sc (replicate page_size blank)).list → n ≡ min a.total page_size
    → Laid a (take n list) (length (take n list)) out out' → roomy ≤ length out → Told s out out'
told {s} {sc} {out} {out'} {a} blank {list} {n} is-sc is-a is-list is-n l h =
    let zeros : length sc ≡ scratch_size = ap length is-sc ∙ length-replicate {A = ℕ} scratch_size 0 in
    let blanks : length (replicate page_size blank) ≡ page_size = length-replicate page_size blank in
    record {
      bytes = λ _.
          page scratch_size page_size s sc out out' a (replicate page_size blank) list n zeros blanks is-a is-list is-n l
          ∙ ap (λ (x : List ℕ). sets out 0 (layout_of (call s x []).answer (take page_size (records_of s scratch_size)))) is-sc;
      untouched = λ g. absurd (omega arith);
    }

pub nothing : {s out : List ℕ} → length out < roomy → Told s out out
nothing h = record { bytes = λ g. absurd (omega arith); untouched = λ _. refl }

-- ## The collected rows

pub collected : {s sc sc' w : List ℕ} {cx cx' : Errors} {r : Gathered} → Collects s sc sc' w cx cx' r → CollectedRows s r.count sc'
collected c = record { count = c.count; row = λ k h. c.pairs k (omega (arith, c.count)) }

pub room : {s sc sc' w : List ℕ} {cx cx' : Errors} {r : Gathered} → Runnable s sc → Collects s sc sc' w cx cx' r → 2 * r.count ≤ length sc'
room {s} r c = omega (arith, c.count, c.same, r.long, all-few s r.accepted)

pub no_rows : {s scratch : List ℕ} {room : ℕ} {r : Refusal} → read_with room s ≡ Err r → RowsOf s room 0 scratch
unfolding rows_by
no_rows e = record { count = rw e refl; row = λ k h. absurd (omega arith) }

pub some-rows : {s scratch : List ℕ} {room n e : ℕ} → read_with room s ≡ Ok e → CollectedRows s n scratch → RowsOf s room n scratch
unfolding rows_by
some-rows e c = record { count = rw e c.count; row = λ k h. rw e (c.row k h) }
