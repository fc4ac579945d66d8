-- The path is told by that of the parent, whose id is smaller.
use Rattle.std.proofs.Common.{sym, ◌∙◌, ap, ◌++◌, ◌∷◌, [], arith}
use Rattle.sg_ramfs.proofs.Trees.{file_nested, path_of_file, path_of_no_file}
use Rattle.sg_ramfs.proofs.tree.FileTree.+path.Goals as goal

pub path-requires : goal.path-requires
path-requires t c =
    let below = (file_nested c.args.self.now c.args.id c.in-Some.file.now c.get.ensures.tree (sym c.in-Some.ensures.entry)).0 in
    (omega (arith, below, c.decreases), tt)

pub returns-in_ok-extend_from_slice-in-Some-clause-path : goal.returns-in_ok-extend_from_slice-in-Some-clause-path
returns-in_ok-extend_from_slice-in-Some-clause-path t c =
    let is = path_of_file c.args.self.now c.args.id c.in-Some.file.now c.get.ensures.tree (sym c.in-Some.ensures.entry) in
    c.in_ok-extend_from_slice-in-Some.ensures.ok ∙ ap (λ name. c.push.new.self ++ name) c.as_slice.ensures ∙ ap (λ p. p ++ c.in-Some.file.now.name) c.in_ok-push-in-Some.ensures.ok
    ∙ ap (λ p. (p ++ 47 ∷ []) ++ c.in-Some.file.now.name) c.in_ok-path-in-Some.ensures.path ∙ is

pub returns-in-None-clause-path : goal.returns-in-None-clause-path
returns-in-None-clause-path t c = c.new.ensures ∙ path_of_no_file c.args.self.now c.args.id (sym c.in-None.ensures.entry)
