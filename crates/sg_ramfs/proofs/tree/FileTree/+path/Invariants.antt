use Rattle.sg_ramfs.proofs.tree.FileTree.+path.Given as goal

abbrev pub decreases-path : goal.decreases-path
decreases-path l = l.id
