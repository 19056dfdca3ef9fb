use Rattle.std.proofs.Common.{◌≡◌, ◌⊎◌, ◌/◌, ℕ, List, Result, Ok, Err, OnOk, inr, length, refl, sym, ap, subst, ◌∙◌, rules}
use Rattle.std.proofs.lemmas.List.{take_all}
use Rattle.std.specs.List.{flat_map}
use Rattle.hound.specs.{Accepts, AcceptsBytes, Ghosts, IsSameFile, WriterState, batch_bytes, batch_writer, containers, i16_bytes, signed_bytes_of, accepted_samples, data_length, Error}
use Rattle.hound_callers.proofs.recording.record_batch.Goals as goal

-- at an Ok two values are those of each of these, if two that are equal to them are
ok_same : {T E A B W Q : Type 0} {Each : W → Type 0} (r : Result T E) (f : W → A) (g : W → B)
    (a : A) (b : B) {c : A} {d : B} → a ≡ c → b ≡ d
    → ((x : T) → r ≡ Ok x → Q → (each : W) → Each each → (a ≡ f each) × (b ≡ g each))
    → OnOk r (Q → (each : W) → Each each → (c ≡ f each) × (d ≡ g each))
ok_same (Ok x) f g a b ac bd same = λ q each went. let (af, bg) = same x refl q each went in
    (sym ac ∙ af, sym bd ∙ bg)
ok_same (Err e) f g a b ac bd same = tt

pub returns-clause-same : goal.returns-clause-same
returns-clause-same g c modelled =
    let W = g.M.Placed in
    let first = c.args.writer.now in
    let batch = c.args.batch.now in
    let values = c.loop-value.values in
    let bytes : batch_bytes values ≡ i16_bytes batch = c.loop-value.invariant.written
    ∙ ap (flat_map (signed_bytes_of 2)) (take_all _ batch c.loop-value-test.false) in
    let list = λ (bytes : List ℕ). containers (batch_writer values).spec_ex.bytes_per_sample
    (length bytes / (batch_writer values).spec_ex.bytes_per_sample) bytes in
    let last = c.flush.new.self.0 in
    ok_same c.flush.result (accepted_samples W.state) data_length (accepted_samples W.state last)
    (data_length last) (search rules) (search rules) (λ x is whole each went.
    c.a_batch_is_its_values.ensures modelled first (batch_writer values) last each whole c.requires.1
    c.in_ok-values.ensures.width c.loop-value.invariant.stays
    (subst (λ (x : List ℕ × Result (Unit {0}) Error).
    Accepts W (Ok (list x.0)) x.1 (batch_writer values) last)
    (λ i. (bytes i, is i)) c.flush.ensures.accepts) went)

-- what a call did to a writer that is this one
calls_of : {M : Type 0} (kind : Ghosts M) (P : Type 0) (first mid last : WriterState M) {given : WriterState M}
    (bytes wanted : List ℕ) (r : Result (Unit {0}) Error) → last ≡ given → bytes ≡ wanted → IsSameFile first mid
    → AcceptsBytes kind bytes r mid last
    → P ⊎ ((m : WriterState M) × IsSameFile first m × AcceptsBytes kind wanted r m given)
calls_of kind P first mid last bytes wanted r same is stays accepts = inr (
  mid,
  stays,
  subst (λ (x : List ℕ × WriterState _). AcceptsBytes kind x.0 r mid x.1) (λ i. (is i, same i)) accepts,
)

pub returns-clause-calls : goal.returns-clause-calls
returns-clause-calls g c =
    let batch = c.args.batch.now in
    let values = c.loop-value.values in
    let bytes : batch_bytes values ≡ i16_bytes batch = c.loop-value.invariant.written
    ∙ ap (flat_map (signed_bytes_of 2)) (take_all _ batch c.loop-value-test.false) in
    calls_of g.M.Placed _ c.args.writer.now (batch_writer values) c.flush.new.self.0 (batch_bytes values)
    (i16_bytes batch) c.flush.result (search rules) bytes c.loop-value.invariant.stays c.flush.ensures.accepts
