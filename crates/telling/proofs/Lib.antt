mod Expansions
