mod Losses
