-- Paths: walks and paths in a graph. Tree: a rooted tree and the path to its holder. Edges: a tree
-- by the list of its edges, and the faults of a list that is no tree. Growth: a tree that grows
-- from its root, for the code that finds the paths to the holder.
pub mod Paths
pub mod Tree
pub mod Edges
pub mod Growth
