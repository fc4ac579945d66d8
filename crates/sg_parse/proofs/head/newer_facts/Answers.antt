-- The version, the facts of every version, and the fact of a version after the first.
use Rattle.std.proofs.Common.{◌≡◌, ◌∙◌, [], ap, refl, sym}
use Rattle.std.proofs.lemmas.Result.{err_from_is_err_and}
use Rattle.sg_rules.specs.sg_lex.Inside.Automata.{read}
use Rattle.sg_rules.specs.declared.version.Newer.{Newer}
use Rattle.sg_rules.specs.declared.version.Newer.TheVariants.{Second, Third}
use Rattle.sg_parse.specs.Grammar.Inside.States.{head0, head_end, newer_end, statements, trees}
use Rattle.sg_parse.specs.Inside.{number_of, version_of}
use Rattle.sg_parse.proofs.head.newer_facts.Goals as goal

-- the head of a text of either version
head_of : (version : Newer) → version_of (head0 (newer_end 2)) (head0 (newer_end 3)) version ≡ head0 (newer_end (number_of version))
head_of Second = refl
head_of Third = refl

pub returns-in_err-shared : goal.returns-in_err-shared
returns-in_err-shared c =
    let p = err_from_is_err_and c.from_residual-in_err-shared.result c.from_residual-in_err-shared.ensures.1 in
    let v = c.in_ok-version.version in
    rw (p.1, p.2) (λ ne.
    c.in_ok-version.ensures (head0 (newer_end 2)) (head0 (newer_end 3))
    ∙ ap (λ s. read trees s c.newer_version.new.reader) (head_of v)
    ∙ c.in_err-shared.ensures (newer_end (number_of v)) ne)

pub returns-in_err-eager : goal.returns-in_err-eager
returns-in_err-eager c =
    let p = err_from_is_err_and c.from_residual-in_err-eager.result c.from_residual-in_err-eager.ensures.1 in
    let v = c.in_ok-version.version in
    let s = c.in_ok-shared.shared in
    rw (p.1, p.2) (λ ne.
    c.in_ok-version.ensures (head0 (newer_end 2)) (head0 (newer_end 3))
    ∙ ap (λ s. read trees s c.newer_version.new.reader) (head_of v)
    ∙ c.in_ok-shared.ensures (newer_end (number_of v))
    ∙ c.in_err-eager.ensures (λ eager. head_end (number_of v) eager s.service s.parent s.close s.global s.block s.has_data s.resc_data) ne)

pub returns-in_err-end : goal.returns-in_err-end
returns-in_err-end c =
    let p = err_from_is_err_and c.from_residual-in_err-end.result c.from_residual-in_err-end.ensures.1 in
    let v = c.in_ok-version.version in
    let s = c.in_ok-shared.shared in
    let eager = c.in_ok-eager.eager in
    rw (p.1, p.2) (λ ne.
    c.in_ok-version.ensures (head0 (newer_end 2)) (head0 (newer_end 3))
    ∙ ap (λ s. read trees s c.newer_version.new.reader) (head_of v)
    ∙ c.in_ok-shared.ensures (newer_end (number_of v))
    ∙ c.in_ok-eager.ensures (λ eager. head_end (number_of v) eager s.service s.parent s.close s.global s.block s.has_data s.resc_data)
    ∙ c.in_err-end.ensures (statements (record { version = number_of v; service = s.service; parent = s.parent; close = s.close; global = s.global; block = s.block; has_data = s.has_data; resc_data = s.resc_data; eager = eager }) []) ne)

pub returns : goal.returns
returns c =
    let v = c.in_ok-version.version in
    let s = c.in_ok-shared.shared in
    let eager = c.in_ok-eager.eager in
    c.in_ok-version.ensures (head0 (newer_end 2)) (head0 (newer_end 3))
    ∙ ap (λ s. read trees s c.newer_version.new.reader) (head_of v)
    ∙ c.in_ok-shared.ensures (newer_end (number_of v))
    ∙ c.in_ok-eager.ensures (λ eager. head_end (number_of v) eager s.service s.parent s.close s.global s.block s.has_data s.resc_data)
    ∙ c.in_ok-end.ensures (statements (record { version = number_of v; service = s.service; parent = s.parent; close = s.close; global = s.global; block = s.block; has_data = s.has_data; resc_data = s.resc_data; eager = eager }) [])
    ∙ ap (λ n. read trees (statements (record { version = n; service = s.service; parent = s.parent; close = s.close; global = s.global; block = s.block; has_data = s.has_data; resc_data = s.resc_data; eager = eager }) []) c.end.new.reader) (sym c.number_of.ensures)
