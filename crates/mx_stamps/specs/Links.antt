use Rattle.std.specs.Prelude.{ℕ, ◌+◌, ◌*◌}

-- the index of the link from one node to another, in lists of the links between 21 nodes
abbrev pub link_of : ℕ → ℕ → ℕ
link_of from to = from * 21 + to
