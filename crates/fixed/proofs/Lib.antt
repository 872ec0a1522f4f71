mod Complements
