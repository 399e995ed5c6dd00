-- What the contracts cite: the links of a name, entries, the tree of names, the symbol table of a text.
pub mod Links
pub mod Entry
pub mod Tree
pub mod Symbol
